-- The memory that a screen shows at first: the first that the source names where it stores. Source:
-- mos65.
use Rattle.std.specs.Prelude.{ℕ, ◌+◌, ◌*◌, ◌&&◌, Bool, true, false, not, nat_le, List, find, Option, Some, None, slice_index}
use Rattle.model.specs.Effect.{operation_of}
use Rattle.model.specs.OpcodeTable.{row_at}
use Rattle.model.specs.State.{Map, is_port}
use Rattle.model.specs.declared.instruction.Mode.{Mode}
use Rattle.model.specs.declared.instruction.Mode.TheVariants.{Abs, AbsX, AbsY}
use Rattle.model.specs.declared.instruction.Row.{Row as OpcodeRow}
use Rattle.model.specs.declared.operation.Operation.{Operation}
use Rattle.model.specs.declared.operation.Operation.TheVariants.{Store, Modify}
use Rattle.mon_lines.specs.declared.command.Stretch.{Stretch}
use Rattle.source_map.specs.declared.rows.Row.{Row}

-- Whether an operation stores at the address of its operand.
abbrev pub is_store : Operation → Bool
is_store (Store op) = true
is_store (Modify op) = true
is_store operation = false

-- Whether an address stands behind the opcode, to which an index may be added.
abbrev pub names_address : Mode → Bool
names_address Abs = true
names_address AbsX = true
names_address AbsY = true
names_address mode = false

abbrev pub stores_by : Option OpcodeRow → Bool
stores_by None = false
stores_by (Some row) = is_store (operation_of row.mnemonic) && names_address row.mode

-- Whether memory at an address is shown nowhere else and is no port: page zero and the stack are.
abbrev pub is_apart : Map → ℕ → Bool
is_apart map address = nat_le 512 address && not (is_port map address)

-- The address behind the opcode of a line, the low byte first.
abbrev pub address_in : Row → ℕ
address_in line = slice_index line.bytes 1 + 256 * slice_index line.bytes 2

-- Whether a line is an instruction that stores at such an address, or behind it.
abbrev pub stores_apart : Map → Row → Bool
stores_apart map line = line.is_instruction
    && stores_by (row_at map.profile (slice_index line.bytes 0)) && is_apart map (address_in line)

-- The page of an address; that of $0200 if there is none.
abbrev pub page_of : Option Row → Stretch
page_of None = record { first = 512; last = 767 }
page_of (Some line) = record {
  first = 256 * slice_index line.bytes 2;
  last = 256 * slice_index line.bytes 2 + 255;
}

-- That of the first line which stores so.
abbrev pub first_stretch : Map → List Row → Stretch
first_stretch map lines = page_of (find (stores_apart map) lines)
