-- The text of rows, one row more at a time.
use Rattle.std.proofs.Common.{◌≡◌, ◌∙◌, ℕ, ◌+◌, ◌<◌, ◌≤◌, List, [], ◌∷◌, ◌++◌, length, take, get_or, sym, ap, append_assoc, append-nil}
use Rattle.std.specs.List.{flat_map}
use Rattle.std.proofs.lemmas.Grind.{flat_map-append}
use Rattle.std.proofs.lemmas.List.{take_all, take_more}

pub one_text : {X : Type 0} (f : X → List ℕ) (xs : List X) (n : ℕ) (d : X) (text more : List ℕ) → n < length xs → text ≡ flat_map f (take n xs)
    → more ≡ text ++ f (get_or xs n d)
    → more ≡ flat_map f (take (n + 1) xs)
one_text f xs n d text more inside so_far grown =
    let x = get_or xs n d in
    let step : flat_map f (take (n + 1) xs) ≡ flat_map f (take n xs) ++ f x =
    ap (λ t. flat_map f t) (take_more xs n d inside) ∙ (flat_map-append f (take n xs) (x ∷ [])
    ∙ ap (λ (t : List ℕ). flat_map f (take n xs) ++ t) (append-nil (f x))) in
    grown ∙ (ap (λ (t : List ℕ). t ++ f x) so_far ∙ sym step)

pub all_texts : {X : Type 0} (f : X → List ℕ) (xs : List X) (n : ℕ) (text : List ℕ) → length xs ≤ n → text ≡ flat_map f (take n xs) → text ≡ flat_map f xs
all_texts f xs n text h so_far = so_far ∙ ap (λ t. flat_map f t) (take_all n xs h)

-- texts, one behind the other
pub four : (t0 t1 t2 t3 t4 a b c d : List ℕ) → t1 ≡ t0 ++ a → t2 ≡ t1 ++ b → t3 ≡ t2 ++ c → t4 ≡ t3 ++ d → t4 ≡ t0 ++ (a ++ b ++ c ++ d)
four t0 t1 t2 t3 t4 a b c d e1 e2 e3 e4 = rw (e4, e3, e2, e1) (simp append_assoc)

pub five : (t0 t1 t2 t3 t4 t5 a b c d e : List ℕ) → t1 ≡ t0 ++ a → t2 ≡ t1 ++ b → t3 ≡ t2 ++ c → t4 ≡ t3 ++ d → t5 ≡ t4 ++ e
    → t5 ≡ t0 ++ (a ++ b ++ c ++ d ++ e)
five t0 t1 t2 t3 t4 t5 a b c d e e1 e2 e3 e4 e5 = rw (e5, e4, e3, e2, e1) (simp append_assoc)
