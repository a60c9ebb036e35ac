-- The ranges, an address at a time.
use Rattle.std.proofs.Common.{◌≡◌, ℕ, suc, ◌+◌, ◌-◌, ◌<◌, ◌≤◌, ◌==◌, List, [], ◌∷◌, length, map, reverse, drop, get_or, Option, Some, None, refl, sym, ap, ◌∙◌, arith, add-one, drop-cons, inl, inr}
use Rattle.std.proofs.lemmas.Bool.{cases_Bool, eqb-true}
use Rattle.model.specs.TapeText.{Stretch, before_runs, runs}
use Rattle.word_info.specs.Facts.{range_of_run}
use Rattle.word_info.specs.Steps.{before_ranges, with_cell}
use Rattle.word_info.specs.declared.ranges.Range.{Range}

abbrev Cells : Type 0
Cells = List (Option ℕ)

-- a byte before runs, by its ranges
before_map : (address b : ℕ) (later : List Stretch) → map range_of_run (before_runs address b later) ≡ before_ranges address (map range_of_run later)
before_map address b [] = let one : address + 1 - 1 ≡ address = omega arith in rw one refl
before_map address b (run ∷ later) = elim (cases_Bool (run.0 == address + 1)) [
  | inl t ↦
      let begins = eqb-true _ _ t in
      let last : address + suc (length run.1) - 1 ≡ run.0 + length run.1 - 1 = omega (arith, begins) in
      rw (t, last) refl
  | inr f ↦
      let one : address + 1 - 1 ≡ address = omega arith in
      rw (f, one) refl
]

by_cell : (cells : Cells) (a : ℕ) (cell : Option ℕ) → drop a cells ≡ cell ∷ drop (a + 1) cells
    → with_cell a cell (map range_of_run (runs (a + 1) (drop (a + 1) cells))) ≡ map range_of_run (runs a (drop a cells))
by_cell cells a None cut = sym (ap (λ (x : Cells). map range_of_run (runs a x)) cut)
by_cell cells a (Some b) cut =
    sym (ap (λ (x : Cells). map range_of_run (runs a x)) cut ∙ before_map a b (runs (a + 1) (drop (a + 1) cells)))

-- the address before those that were looked at
pub turn : (cells : Cells) (old new : List Range) (n : ℕ) → 0 < n → n ≤ length cells → reverse old ≡ map range_of_run (runs n (drop n cells))
    → reverse new ≡ with_cell (n - 1) (get_or cells (n - 1) None) (reverse old)
    → reverse new ≡ map range_of_run (runs (n - 1) (drop (n - 1) cells))
turn cells old new n some inside so_far put =
    let a = n - 1 in
    let back : n ≡ a + 1 = omega (arith, some) in
    let cut : drop a cells ≡ get_or cells a None ∷ drop (a + 1) cells = rw (add-one, drop-cons cells a None (omega (arith, some, inside))) refl in
    put ∙ ap (λ (x : List Range). with_cell a (get_or cells a None) x) (so_far ∙ ap (λ (k : ℕ). map range_of_run (runs k (drop k cells))) back)
    ∙ by_cell cells a (get_or cells a None) cut

drop_all : (cells : Cells) → drop (length cells) cells ≡ []
drop_all [] = refl
drop_all (c ∷ cells) = drop_all cells

-- no address was looked at
pub none_yet : (cells : Cells) (items : List Range) → items ≡ [] → reverse items ≡ map range_of_run (runs (length cells) (drop (length cells) cells))
none_yet cells items none = ap (λ (x : List Range). reverse x) none ∙ sym (ap (λ (x : Cells). map range_of_run (runs (length cells) x)) (drop_all cells))
