-- How long each row of each table is, computed for all 256 bytes.
use Rattle.std.proofs.Common.{◌≡◌, ℕ, ◌<◌, ◌≤◌, map, refl, ap, sym, ◌∙◌, arith, get_or}
use Rattle.std.specs.Prelude.{None, Some, Option, Bool, true, ◌==◌}
use Rattle.std.specs.List.{range_with_len}
use Rattle.std.proofs.lemmas.Bool.{eqb-true}
use Rattle.std.proofs.lemmas.List.FromFn.{get_or-map-range_with_len}
use Rattle.model.specs.declared.instruction.Profile.{Profile}
use Rattle.model.specs.declared.instruction.Profile.TheVariants.{N, C}
use Rattle.model.specs.declared.instruction.Row.{Row}
use Rattle.model.specs.declared.instruction.Mode.{Mode}
use Rattle.model.specs.declared.instruction.Mode.TheVariants.{Imp, Acc, Imm, Zp, ZpX, ZpY, Abs, AbsX, AbsY, IndX, IndY, Ind, Rel, IndZ}
use Rattle.model.specs.OpcodeTable.{row_at, find_row, table, documented_opcodes, added_opcodes}
use Rattle.model.specs.Layout.{length_in, LengthsAreTheTables}

abbrev is_right : Option Row → Bool
is_right None = true
is_right (Some row) = row.len == length_in row.mode

all_right : (profile : Profile) → map (λ opcode. is_right (row_at profile opcode))
    (range_with_len 0 256) ≡ map (λ (opcode : ℕ). true) (range_with_len 0 256)
unfolding row_at find_row table documented_opcodes added_opcodes
all_right N = refl
all_right C = refl

right : (profile : Profile) (opcode : ℕ) → opcode < 256 → is_right (row_at profile opcode) ≡ true
right profile opcode below =
    sym (get_or-map-range_with_len (λ opcode. is_right (row_at profile opcode)) 0 256 opcode opcode true below (omega arith))
    ∙ ap (λ rows. get_or rows opcode true) (all_right profile)
    ∙ get_or-map-range_with_len (λ (opcode : ℕ). true) 0 256 opcode opcode true below (omega arith)

-- a row is as long as its mode
pub len_is : LengthsAreTheTables
len_is profile opcode row below e = let h : is_right (Some row) ≡ true = rw e at (right profile opcode below) in eqb-true _ _ h

-- no instruction is longer than three bytes
pub length_in_small : (mode : Mode) → length_in mode ≤ 3
length_in_small Imp = omega arith
length_in_small Acc = omega arith
length_in_small Imm = omega arith
length_in_small Zp = omega arith
length_in_small ZpX = omega arith
length_in_small ZpY = omega arith
length_in_small Abs = omega arith
length_in_small AbsX = omega arith
length_in_small AbsY = omega arith
length_in_small IndX = omega arith
length_in_small IndY = omega arith
length_in_small Ind = omega arith
length_in_small Rel = omega arith
length_in_small IndZ = omega arith
