-- Runs of the fill byte.
use Rattle.std.proofs.Common.{◌≡◌, ℕ, suc, ◌+◌, ◌-◌, ◌<◌, ◌≤◌, List, length, Option, Some, None, sym, ap, subst, ◌∙◌, arith, inl, inr}
use Rattle.std.specs.Prelude.{unwrap_or}
use Rattle.std.proofs.lemmas.List.{get_or_past}
use Rattle.std.proofs.lemmas.Bool.Decides.{leb_tells}
use Rattle.model.specs.Image.{cell_at}
use Rattle.word_dis.specs.Fill.{AreKept, AreSameFilled, IsInRun, IsRun}

-- a cell with a byte is one of the image's
pub inside : (cells : List (Option ℕ)) (fill a : ℕ) → length cells ≡ 65536 → cell_at cells a ≡ Some fill → a < 65536
inside cells fill a size has = elim (leb_tells (suc a) 65536) [
  | inl below ↦ omega (arith, below.1)
  | inr past ↦ let none : cell_at cells a ≡ None = get_or_past cells a None (omega (arith, past.1, size)) in absurd (cc (sym none ∙ has))
]

-- a run begins early enough
pub run_begins : (cells : List (Option ℕ)) (fill begin : ℕ) → length cells ≡ 65536 → IsRun cells fill begin → begin ≤ 65520
run_begins cells fill begin size run = omega (arith, inside cells fill (begin + 15) size (run 15 (omega arith)))

-- an address in a run is less than 16 above where the run begins
pub no_run : (cells : List (Option ℕ)) (fill address : ℕ) → ((back : ℕ) → back < 16 → back ≤ address → IsRun cells fill (address - back) → ⊥)
    → IsInRun cells fill address → ⊥
no_run cells fill address none r =
    let low : r.begin ≤ address = r.low in
    let high : address < r.begin + 16 = r.high in
    let same : address - (address - r.begin) ≡ r.begin = omega arith in
    none (address - r.begin) (omega arith) (omega arith) (subst (IsRun cells fill) (sym same) r.run)

pub in_run : (cells : List (Option ℕ)) (fill address back : ℕ) → back < 16 → back ≤ address → IsRun cells fill (address - back) → IsInRun cells fill address
in_run cells fill address back short low run = record { begin = address - back; low = omega arith; high = omega arith; run = run }

-- the cell at an address of a run
run_at : (cells : List (Option ℕ)) (fill address : ℕ) → IsInRun cells fill address → cell_at cells address ≡ Some fill
run_at cells fill address r =
    let low : r.begin ≤ address = r.low in
    let high : address < r.begin + 16 = r.high in
    let same : r.begin + (address - r.begin) ≡ address = omega arith in
    subst (λ (a : ℕ). cell_at cells a ≡ Some fill) same (r.run (address - r.begin) (omega arith))

-- what is kept is the image with its gaps filled
pub same_filled : (fill : Option ℕ) (cells part : List (Option ℕ)) → AreKept cells fill part → AreSameFilled fill cells part
same_filled None cells part kept = tt
same_filled (Some fill) cells part kept = λ a below. elim (kept a below) [
  | inl out ↦ ap (λ (c : Option ℕ). unwrap_or c fill) out.1 ∙ sym (ap (λ (c : Option ℕ). unwrap_or c fill) (run_at cells fill a out.0))
  | inr same ↦ ap (λ (c : Option ℕ). unwrap_or c fill) same.1
]
