-- The image of two files, cell by cell.
use Rattle.std.proofs.Common.{◌≡◌, ℕ, ◌+◌, ◌<◌, Bool, ltb, cond, List, length, get_or, Option, None, refl, sym, ap, ◌∙◌, arith, inl, inr}
use Rattle.std.proofs.lemmas.Bool.{cases_eq, le-ltb, lt-ltb}
use Rattle.image_writer.proofs.Parts.{elsewhere, ltb_next, there}
use Rattle.image_writer.proofs.RawBytes.{empty_at}
use Rattle.image_writer.specs.Window.{with_cell}
use Rattle.model.specs.Image.{cell_at, empty_image}

abbrev Cells : Type 0
Cells = List (Option ℕ)

-- what a cell has where the addresses before an end are done
abbrev pub so_far : (ℕ → Option ℕ) → ℕ → ℕ → Option ℕ
so_far cell end k = cond (ltb k end) (cell k) None

pub none_yet : (cell : ℕ → Option ℕ) (both : Cells) → both ≡ empty_image → (k : ℕ) → cell_at both k ≡ so_far cell 0 k
none_yet cell both e k =
    let nothing : cell_at both k ≡ None = ap (λ (c : Cells). get_or c k None) e ∙ empty_at 65536 k refl in
    rw (le-ltb k 0 (omega arith)) nothing

-- one cell more
pub one_more : (cell : ℕ → Option ℕ) (i : ℕ) (put : Option ℕ) (both new : Cells) → i < 65536 → length both ≡ 65536 → put ≡ cell i → new ≡ with_cell both i put
    → ((k : ℕ) → cell_at both k ≡ so_far cell i k) → (k : ℕ) → cell_at new k ≡ so_far cell (i + 1) k
one_more cell i put both new top size is e before k =
    elim (cases_eq k i) [
      | inl same ↦
          let here : so_far cell i i ≡ None = rw (le-ltb i i (omega arith)) refl in
          let this_one : cell_at new i ≡ so_far cell (i + 1) i =
          ap (λ (c : Cells). get_or c i None) e ∙ there both i put (omega (arith, size, top)) (before i ∙ here) ∙ is
          ∙ rw (lt-ltb i (i + 1) (omega arith)) refl in
          rw same this_one
      | inr other ↦
          ap (λ (c : Cells). get_or c k None) e ∙ elsewhere both i k put other ∙ before k
          ∙ ap (λ (t : Bool). cond t (cell k) None) (sym (ltb_next k i other))
    ]

pub all_of : (cell : ℕ → Option ℕ) (end k : ℕ) (both : Cells) → k < end → ((j : ℕ) → cell_at both j ≡ so_far cell end j) → cell_at both k ≡ cell k
all_of cell end k both below each = each k ∙ rw (lt-ltb k end below) refl
