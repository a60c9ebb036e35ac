-- The runs of equal bytes, an address at a time.
use Rattle.std.proofs.Common.{◌≡◌, ℕ, ◌+◌, ◌-◌, ◌<◌, ◌≤◌, List, [], ◌∷◌, length, reverse, drop, get_or, Option, None, refl, sym, ap, ◌∙◌, arith, add-one, drop-cons}
use Rattle.dump_faults.specs.Regions.{equal_runs, with_cell}
use Rattle.dump_faults.specs.declared.regions.Region.{Region}

abbrev Cells : Type 0
Cells = List (Option ℕ)

-- the address before those that were looked at
pub turn : (cells : Cells) (old new : List Region) (n : ℕ) → 0 < n → n ≤ length cells → reverse old ≡ equal_runs n (drop n cells)
    → reverse new ≡ with_cell (n - 1) (get_or cells (n - 1) None) (reverse old)
    → reverse new ≡ equal_runs (n - 1) (drop (n - 1) cells)
unfolding equal_runs
turn cells old new n some inside so_far put =
    let a = n - 1 in
    let back : n ≡ a + 1 = omega (arith, some) in
    let cut : drop a cells ≡ get_or cells a None ∷ drop (a + 1) cells = rw (add-one, drop-cons cells a None (omega (arith, some, inside))) refl in
    put ∙ (ap (λ (x : List Region). with_cell a (get_or cells a None) x) (so_far ∙ ap (λ (k : ℕ). equal_runs k (drop k cells)) back)
    ∙ sym (ap (λ (x : Cells). equal_runs a x) cut))

drop_all : (cells : Cells) → drop (length cells) cells ≡ []
drop_all [] = refl
drop_all (c ∷ cells) = drop_all cells

-- no address was looked at
pub none_yet : (cells : Cells) (items : List Region) → items ≡ [] → reverse items ≡ equal_runs (length cells) (drop (length cells) cells)
unfolding equal_runs
none_yet cells items none = ap (λ (x : List Region). reverse x) none ∙ sym (ap (λ (x : Cells). equal_runs (length cells) x) (drop_all cells))
