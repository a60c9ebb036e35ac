-- The addresses that are told, one after another, and those that count as written from then on.
use Rattle.std.proofs.Common.{◌≡◌, ◌∙◌, ℕ, ◌+◌, ◌<◌, Bool, true, false, List, [], ◌∷◌, ◌++◌, length, drop, get_or, refl, sym, ap, add-one, drop-cons, append_assoc}
use Rattle.std.specs.Prelude.{Option, None, Some, if◌then◌else◌}
use Rattle.accesses.proofs.Bytes.{bytes_both}
use Rattle.accesses.specs.Writing.{with_bytes}
use Rattle.model.specs.State.{Map}
use Rattle.word_trace.specs.Gathered.{is_told, told, with_all_written, with_told, with_written}

-- No address, one, and some after others.
pub written_none : (w : Option (List Bool)) → with_all_written w [] ≡ w
unfolding with_bytes
written_none None = refl
written_none (Some cells) = refl

pub written_one : (w : Option (List Bool)) (address : ℕ) → with_all_written w (address ∷ []) ≡ with_written w address
unfolding with_bytes
written_one None address = refl
written_one (Some cells) address = refl

pub written_all : (w : Option (List Bool)) (xs ys : List ℕ) → with_all_written (with_all_written w xs) ys ≡ with_all_written w (xs ++ ys)
written_all None xs ys = refl
written_all (Some cells) xs ys = ap (λ (c : List Bool). Some c) (bytes_both cells xs ys)

-- A read that is told, or not.
pub told_not : (m : Map) (w : Option (List Bool)) (address : ℕ) → is_told m w address ≡ false → told m w (address ∷ []) ≡ []
unfolding told
told_not m w address e = ap (λ (b : Bool). if b then address ∷ [] else []) e

pub told_yes : (m : Map) (w : Option (List Bool)) (address : ℕ) → is_told m w address ≡ true → told m w (address ∷ []) ≡ address ∷ []
unfolding told
told_yes m w address e = ap (λ (b : Bool). if b then address ∷ [] else []) e

pub with_told_not : (m : Map) (w : Option (List Bool)) (address : ℕ) → is_told m w address ≡ false → with_told m w (address ∷ []) ≡ w
with_told_not m w address e = ap (with_all_written w) (told_not m w address e) ∙ written_none w

pub with_told_yes : (m : Map) (w : Option (List Bool)) (address : ℕ) → is_told m w address ≡ true → with_told m w (address ∷ []) ≡ with_written w address
with_told_yes m w address e = ap (with_all_written w) (told_yes m w address e) ∙ written_one w address

told_cons : (m : Map) (w : Option (List Bool)) (a : ℕ) (rest : List ℕ) → told m w (a ∷ rest) ≡ told m w (a ∷ []) ++ told m (with_told m w (a ∷ [])) rest
unfolding told
told_cons m w a rest = by (is_told m w a)
  where
    by : (b : Bool) → (if b then a ∷ told m (with_written w a) rest else told m w rest)
        ≡ (if b then a ∷ [] else []) ++ told m (with_all_written w (if b then a ∷ [] else [])) rest
    by true = ap (λ (u : Option (List Bool)). a ∷ told m u rest) (sym (written_one w a))
    by false = ap (λ (u : Option (List Bool)). told m u rest) (sym (written_none w))

-- Of some addresses one was told, or not; the others are left.
pub told_on : (m : Map) (w v : Option (List Bool)) (done xs : List ℕ) (i : ℕ) → i < length xs → v ≡ with_told m w (get_or xs i 0 ∷ [])
    → (done ++ told m w (get_or xs i 0 ∷ [])) ++ told m v (drop (i + 1) xs) ≡ done ++ told m w (drop i xs)
told_on m w v done xs i h e =
    let a : ℕ = get_or xs i 0 in
    let d : drop i xs ≡ a ∷ drop (i + 1) xs = rw (add-one, drop-cons xs i 0) refl in
    append_assoc done (told m w (a ∷ [])) (told m v (drop (i + 1) xs))
    ∙ ap (λ ys. done ++ ys) (ap (λ u. told m w (a ∷ []) ++ told m u (drop (i + 1) xs)) e ∙ sym (told_cons m w a (drop (i + 1) xs)) ∙ sym (ap (told m w) d))

pub told_none : (m : Map) (w : Option (List Bool)) (xs : List ℕ) → xs ≡ [] → told m w xs ≡ []
unfolding told
told_none m w xs e = ap (told m w) e
