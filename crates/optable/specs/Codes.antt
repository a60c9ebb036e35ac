-- An opcode, if a profile has it.
use Rattle.std.specs.Prelude.{ℕ, Option, Some, None}
use Rattle.model.specs.declared.instruction.Profile.{Profile}
use Rattle.model.specs.declared.instruction.Row.{Row}
use Rattle.model.specs.OpcodeTable.{row_at}

abbrev pub if_row : ℕ → Option Row → Option ℕ
if_row opcode None = None
if_row opcode (Some row) = Some opcode

abbrev pub within : Profile → Option ℕ → Option ℕ
within profile None = None
within profile (Some opcode) = if_row opcode (row_at profile opcode)
