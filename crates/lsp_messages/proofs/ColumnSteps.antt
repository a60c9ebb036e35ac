-- A column of a line, one byte after another.
use Rattle.std.proofs.Common.{◌≡◌, ◌⊎◌, ◌==◌, inl, inr, ℕ, suc, ◌+◌, ◌-◌, ◌<◌, ◌≤◌, true, false, List, ◌∷◌, length, drop, get_or, refl, add-one, arith, drop-cons, rules, tests}
use Rattle.std.proofs.lemmas.List.{drop_all}
use Rattle.lsp_messages.specs.Columns.{column_of, is_reached, units_of}

cut : (line : List ℕ) (i : ℕ) → i < length line → drop i line ≡ get_or line i 0 ∷ drop (i + 1) line
cut line i within = rw (add-one, drop-cons line i 0) refl

pub here : (left units b : ℕ) → left ≡ 0 → 0 < units → units ≡ units_of b → is_reached left b ≡ true
here left units b none some is = rw (none, ← is) (search (rules, tests, some))

pub not_here : (left units b : ℕ) → (left ≡ 0 × units ≤ 0) ⊎ (left ≡ 0 → ⊥) → units ≡ units_of b → is_reached left b ≡ false
not_here left units b (inl within) is = rw (within.0, ← is) (search (rules, tests, within.1))
not_here left units b (inr some) is =
    let past : (left == 0) ≡ false = search (rules, tests, some) in
    rw past refl

pub reached : (left : ℕ) (line : List ℕ) (i whole : ℕ) → i < length line → is_reached left (get_or line i 0) ≡ true
    → whole ≡ i + column_of left (drop i line) → i ≡ whole
unfolding column_of
reached left line i whole within here so_far =
    let at : column_of left (drop i line) ≡ 0 = rw (cut line i within, here) refl in
    omega (arith, at, so_far)

pub passed : (left : ℕ) (line : List ℕ) (i whole more : ℕ) → i < length line → is_reached left (get_or line i 0) ≡ false
    → more ≡ left - units_of (get_or line i 0)
    → whole ≡ i + column_of left (drop i line) → whole ≡ i + 1 + column_of more (drop (i + 1) line)
unfolding column_of
passed left line i whole more within not_here is so_far =
    let at : column_of left (drop i line) ≡ suc (column_of (left - units_of (get_or line i 0)) (drop (i + 1) line)) = rw (cut line i within, not_here) refl in
    rw is (omega (arith, at, so_far))

pub at_end : (left : ℕ) (line : List ℕ) (i whole : ℕ) → length line ≤ i → i ≤ length line → whole ≡ i + column_of left (drop i line) → length line ≡ whole
unfolding column_of
at_end left line i whole past within so_far =
    let at : column_of left (drop i line) ≡ 0 = rw (drop_all i line past) refl in
    omega (arith, at, so_far)
