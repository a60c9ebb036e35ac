-- The letters of one opcode more.
use Rattle.std.proofs.Common.{◌≡◌, ◌∙◌, ◌+◌, ℕ, suc, List, ◌++◌, ap, refl, sym, add-one, append_assoc, append-nil}
use Rattle.model.specs.declared.instruction.Profile.{Profile}
use Rattle.page_writer.specs.Facts.{opcode_cell, opcode_cells}

cells_suc : (profile : Profile) (n : ℕ) → opcode_cells profile (suc n) ≡ opcode_cells profile n ++ opcode_cell profile n
unfolding opcode_cells
cells_suc profile n = refl

pub cells_more : (profile : Profile) (n : ℕ) (before : List ℕ)
    → (before ++ opcode_cells profile n) ++ opcode_cell profile n ≡ before ++ opcode_cells profile (n + 1)
cells_more profile n before = append_assoc before (opcode_cells profile n) (opcode_cell profile n)
    ∙ ap (λ (l : List ℕ). before ++ l) (sym (cells_suc profile n)) ∙ ap (λ (k : ℕ). before ++ opcode_cells profile k) (sym (add-one n))

pub no_cells : (profile : Profile) (before : List ℕ) → before ≡ before ++ opcode_cells profile 0
unfolding opcode_cells
no_cells profile before = sym (append-nil before)
