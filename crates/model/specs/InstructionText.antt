-- The text of an instruction. Source: mos65; the forms are those of the MCS6500 manual, chapters 4
-- to 6.
use Rattle.std.specs.Prelude.{ℕ, ◌+◌, ◌*◌, ◌%◌, ◌&&◌, nat_lt, nat_le, if◌then◌else◌, List, [], ◌∷◌, ◌++◌, codes, length, Bool, Option, Some, None, is_some, slice_index}
use Rattle.model.specs.declared.instruction.Profile.{Profile}
use Rattle.model.specs.declared.instruction.Mnemonic.{Mnemonic}
use Rattle.model.specs.declared.instruction.Mode.{Mode}
use Rattle.model.specs.declared.instruction.Mode.TheVariants.{Imp, Acc, Imm, Zp, ZpX, ZpY, Abs, AbsX, AbsY, IndX, IndY, Ind, Rel, IndZ}
use Rattle.model.specs.declared.instruction.Row.{Row}
use Rattle.model.specs.OpcodeTable.{row_at, opcode_of}
use Rattle.model.specs.Mnemonics.{mnemonic_text}
use Rattle.model.specs.Operand.{distance}
use Rattle.model.specs.Text.{hex_byte, hex_address}

-- `$` and two hex digits, `$` and four.
abbrev pub byte_text : ℕ → List ℕ
byte_text b = 36 ∷ hex_byte b

abbrev pub word_text : ℕ → List ℕ
word_text w = 36 ∷ hex_address w

-- Whether an instruction has a mode in a profile.
unfoldable pub has_row : Profile → Mnemonic → Mode → Bool
has_row profile m mode = is_some (opcode_of profile m mode)

-- An address in an absolute mode: after a `!` if it is below $0100 and the mnemonic has the zero
-- page mode with the same index.
abbrev pub absolute_text : Profile → Mnemonic → Mode → ℕ → List ℕ
absolute_text profile m short w = if nat_lt w 256 && has_row profile m short then 33 ∷ word_text w
    else word_text w

-- The target of a branch at an address, by its second byte.
abbrev pub target_of : ℕ → ℕ → ℕ
target_of address b = (address + 2 + distance b) % 65536

-- The operand of an instruction at an address as text, by its second byte and its third.
unfoldable pub operand_text : Profile → Mnemonic → Mode → ℕ → ℕ → ℕ → List ℕ
operand_text profile m Imp address b c = []
operand_text profile m Acc address b c = codes " A"
operand_text profile m Imm address b c = codes " #" ++ byte_text b
operand_text profile m Zp address b c = codes " " ++ byte_text b
operand_text profile m ZpX address b c = codes " " ++ byte_text b ++ codes ",X"
operand_text profile m ZpY address b c = codes " " ++ byte_text b ++ codes ",Y"
operand_text profile m Abs address b c = codes " " ++ absolute_text profile m Zp (b + 256 * c)
operand_text profile m AbsX address b c
    = codes " " ++ absolute_text profile m ZpX (b + 256 * c) ++ codes ",X"
operand_text profile m AbsY address b c
    = codes " " ++ absolute_text profile m ZpY (b + 256 * c) ++ codes ",Y"
operand_text profile m IndX address b c = codes " (" ++ byte_text b ++ codes ",X)"
operand_text profile m IndY address b c = codes " (" ++ byte_text b ++ codes "),Y"
operand_text profile m Ind address b c = codes " (" ++ word_text (b + 256 * c) ++ codes ")"
operand_text profile m Rel address b c = codes " " ++ word_text (target_of address b)
operand_text profile m IndZ address b c = codes " (" ++ byte_text b ++ codes ")"

-- A row of memory as text, and its length in bytes of memory.
pub record TextRow : Type 0 where
  pub len : ℕ
  pub text : List ℕ

-- A byte that begins no instruction.
abbrev pub byte_row : ℕ → TextRow
byte_row b = record { len = 1; text = codes ".BYTE $" ++ hex_byte b }

-- The text of an instruction at an address, by its row, its second byte and its third.
abbrev pub instruction_text : Profile → Row → ℕ → ℕ → ℕ → List ℕ
instruction_text profile row address b c
    = mnemonic_text row.mnemonic ++ operand_text profile row.mnemonic row.mode address b c

-- The row of a first byte, if the instruction's bytes are there and none of them is past $FFFF.
abbrev pub row_by : Profile → ℕ → ℕ → List ℕ → Option Row → TextRow
row_by profile address opcode bytes None = byte_row opcode
row_by profile address opcode bytes (Some row) =
    if nat_le row.len (length bytes) && nat_le (address + row.len) 65536
    then record {
      len = row.len;
      text = instruction_text profile row address (slice_index bytes 1) (slice_index bytes 2);
    }
    else byte_row opcode

-- The row at the front of some bytes, at an address. There is a first byte.
unfoldable pub row_of : Profile → List ℕ → ℕ → TextRow
row_of profile bytes address
    = row_by profile address (slice_index bytes 0) bytes (row_at profile (slice_index bytes 0))
