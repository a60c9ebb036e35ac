-- A row at the end of a text that grows, filled up with blanks.
use Rattle.std.proofs.Common.{◌≡◌, ◌∙◌, ℕ, zero, suc, ◌-◌, ◌≤◌, List, [], ◌∷◌, ◌++◌, length, take, drop, refl, sym, ap, arith, append_assoc, length-drop}
use Rattle.std.proofs.lemmas.List.{take-append-drop, take_all}
use Rattle.formatting.specs.Padding.{blanks, padded}

pub take_grown : (from : ℕ) (xs ys : List ℕ) → from ≤ length xs → take from (xs ++ ys) ≡ take from xs
take_grown zero xs ys h = refl
take_grown (suc n) [] ys h = absurd (omega arith)
take_grown (suc n) (x ∷ xs) ys h = ap (λ t. x ∷ t) (take_grown n xs ys (omega arith))

pub drop_grown : (from : ℕ) (xs ys : List ℕ) → from ≤ length xs → drop from (xs ++ ys) ≡ drop from xs ++ ys
drop_grown zero xs ys h = refl
drop_grown (suc n) [] ys h = absurd (omega arith)
drop_grown (suc n) (x ∷ xs) ys h = drop_grown n xs ys (omega arith)

pub take_taken : (from : ℕ) (xs ys : List ℕ) → from ≤ length xs → take from (take from xs ++ ys) ≡ take from xs
take_taken zero xs ys h = refl
take_taken (suc n) [] ys h = absurd (omega arith)
take_taken (suc n) (x ∷ xs) ys h = ap (λ t. x ∷ t) (take_taken n xs ys (omega arith))

pub drop_taken : (from : ℕ) (xs ys : List ℕ) → from ≤ length xs → drop from (take from xs ++ ys) ≡ ys
drop_taken zero xs ys h = refl
drop_taken (suc n) [] ys h = absurd (omega arith)
drop_taken (suc n) (x ∷ xs) ys h = drop_taken n xs ys (omega arith)

pub reaches : (from : ℕ) (xs ys : List ℕ) → from ≤ length xs → from ≤ length (take from xs ++ ys)
reaches zero xs ys h = omega arith
reaches (suc n) [] ys h = absurd (omega arith)
reaches (suc n) (x ∷ xs) ys h = let e : n ≤ length (take n xs ++ ys) = reaches n xs ys (omega arith) in omega arith

pub ruleset grown = (take_grown, drop_grown, take_taken, drop_taken, reaches)

pub padded_at : (from column : ℕ) (text : List ℕ) → from ≤ length text
    → take from text ++ padded column (drop from text) ≡ text ++ blanks (column - (length text - from))
unfolding padded
padded_at from column text h =
    sym (append_assoc (take from text) (drop from text) (blanks (column - length (drop from text))))
    ∙ (ap (λ t. t ++ blanks (column - length (drop from text))) (take-append-drop from text)
    ∙ ap (λ n. text ++ blanks (column - n)) (length-drop from text))

-- A text that was filled up with blanks to a column of the row from an index on.
pub filled : (from column n k : ℕ) (text new : List ℕ) → from ≤ length text → length text ≤ n
    → k ≡ column - (length text - from) → new ≡ take n text ++ blanks k
    → new ≡ take from text ++ padded column (drop from text)
filled from column n k text new h within more e =
    e ∙ (ap (λ t. t ++ blanks k) (take_all n text within)
    ∙ (ap (λ k. text ++ blanks k) more ∙ sym (padded_at from column text h)))
