-- Names and lines of an assembly, taken one after another.
use Rattle.std.proofs.Common.{◌≡◌, ℕ, zero, suc, ◌+◌, List, [], ◌∷◌, ◌++◌, map, Option, Some, None, take, length, refl, ap, sym, ◌∙◌, add-one, arith, append_assoc, append-nil}
use Rattle.model.specs.TextLines.{lines_from, lines_of}
use Rattle.std.specs.Prelude.{slice_get}
use Rattle.std.specs.List.{flat_map, zip}
use Rattle.std.specs.Option.{option_to_list}

taken_suc : {X Y : Type 0} (f : X → List Y) (xs : List X) (i : ℕ)
    → flat_map f (take (suc i) xs) ≡ flat_map f (take i xs) ++ flat_map f (option_to_list (slice_get xs i))
taken_suc f [] zero = refl
taken_suc f [] (suc i) = refl
taken_suc f (x ∷ xs) zero = refl
taken_suc f (x ∷ xs) (suc i) = ap (λ ys. f x ++ ys) (taken_suc f xs i)
    ∙ sym (append_assoc (f x) (flat_map f (take i xs)) (flat_map f (option_to_list (slice_get xs i))))

-- what one more element gives
pub one_more : {X Y : Type 0} (f : X → List Y) (xs : List X) (i : ℕ) (before : List Y)
    → (before ++ flat_map f (take i xs)) ++ flat_map f (option_to_list (slice_get xs i)) ≡ before ++ flat_map f (take (i + 1) xs)
one_more f xs i before = rw add-one (append_assoc before (flat_map f (take i xs)) (flat_map f (option_to_list (slice_get xs i)))
    ∙ ap (λ ys. before ++ ys) (sym (taken_suc f xs i)))

-- what stands in two lists at an index
pub zip_at : {X Y : Type 0} (xs : List X) (ys : List Y) (i : ℕ) (x : X) (y : Y) → slice_get xs i ≡ Some x → slice_get ys i ≡ Some y
    → slice_get (zip xs ys) i ≡ Some (x, y)
zip_at [] ys i x y e f = absurd cc
zip_at (a ∷ xs) [] i x y e f = absurd cc
zip_at (a ∷ xs) (b ∷ ys) zero x y e f = cc
zip_at (a ∷ xs) (b ∷ ys) (suc i) x y e f = zip_at xs ys i x y e f

pub zip_none : {X Y : Type 0} (xs : List X) (ys : List Y) (i : ℕ) → slice_get xs i ≡ None → slice_get (zip xs ys) i ≡ None
zip_none [] ys i e = refl
zip_none (a ∷ xs) [] i e = refl
zip_none (a ∷ xs) (b ∷ ys) zero e = absurd cc
zip_none (a ∷ xs) (b ∷ ys) (suc i) e = zip_none xs ys i e

pub zip_no_other : {X Y : Type 0} (xs : List X) (ys : List Y) (i : ℕ) → slice_get ys i ≡ None → slice_get (zip xs ys) i ≡ None
zip_no_other [] ys i e = refl
zip_no_other (a ∷ xs) [] i e = refl
zip_no_other (a ∷ xs) (b ∷ ys) zero e = absurd cc
zip_no_other (a ∷ xs) (b ∷ ys) (suc i) e = zip_no_other xs ys i e

-- the row or the names of one element
pub one_taken : {X Y : Type 0} (f : X → List Y) (o : Option X) (x : X) → o ≡ Some x → f x ≡ flat_map f (option_to_list o)
one_taken {X} f o x e = sym (ap (λ (p : Option X). flat_map f (option_to_list p)) e ∙ append-nil (f x))

pub none_taken : {X Y : Type 0} (f : X → List Y) (o : Option X) (before : List Y) → o ≡ None → before ≡ before ++ flat_map f (option_to_list o)
none_taken {X} f o before e = sym (ap (λ (p : Option X). before ++ flat_map f (option_to_list p)) e ∙ append-nil before)

mapped_suc : {X Y : Type 0} (f : X → Y) (xs : List X) (i : ℕ) → map f (take i xs) ++ map f (option_to_list (slice_get xs i)) ≡ map f (take (suc i) xs)
mapped_suc f [] zero = refl
mapped_suc f [] (suc i) = refl
mapped_suc f (x ∷ xs) zero = refl
mapped_suc f (x ∷ xs) (suc i) = ap (λ ys. f x ∷ ys) (mapped_suc f xs i)

-- what one more element gives, one for one
pub one_more_mapped : {X Y : Type 0} (f : X → Y) (xs : List X) (i : ℕ) → map f (take i xs) ++ map f (option_to_list (slice_get xs i)) ≡ map f (take (i + 1) xs)
one_more_mapped f xs i = rw add-one (mapped_suc f xs i)

-- the lines of a text, one after another
pub line_taken : (made new : List (List ℕ)) (text rest line : List ℕ) (whole : List (List ℕ)) → new ≡ made ++ line ∷ [] → lines_of text ≡ line ∷ lines_of rest
    → made ++ lines_of text ≡ whole → new ++ lines_of rest ≡ whole
line_taken made new text rest line whole n cut w =
    ap (λ (t : List (List ℕ)). t ++ lines_of rest) n ∙ (append_assoc made (line ∷ []) (lines_of rest)
    ∙ (sym (ap (λ (ls : List (List ℕ)). made ++ ls) cut) ∙ w))

no_line : (text : List ℕ) → length text ≡ 0 → lines_of text ≡ []
unfolding lines_from
no_line [] h = refl
no_line (b ∷ text) h = absurd (omega arith)

pub no_line_left : (made : List (List ℕ)) (text : List ℕ) (whole : List (List ℕ)) → length text ≡ 0 → made ++ lines_of text ≡ whole → made ≡ whole
no_line_left made text whole h w = sym (append-nil made) ∙ (sym (ap (λ (ls : List (List ℕ)). made ++ ls) (no_line text h)) ∙ w)
