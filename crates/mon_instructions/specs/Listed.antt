-- Instructions and data one after another, where lines of the source begin. Source: mos65.
use Rattle.std.specs.Prelude.{ℕ, ◌+◌, ◌%◌, ◌==◌, ◌&&◌, ◌||◌, false, min, nat_lt, if◌then◌else◌, Bool, List, [], ◌∷◌, ◌++◌, Option, None, Some, codes, take}
use Rattle.std.specs.List.{flat_map}
use Rattle.model.specs.State.{State}
use Rattle.model.specs.Text.{hex_byte}
use Rattle.source_map.specs.Lines.{PlacesView, data_left, row_at}
use Rattle.source_map.specs.Names.{Named}
use Rattle.source_map.specs.declared.rows.Row.{Row}
use Rattle.mon_instructions.specs.Instructions.{bytes_at, front_columns, instruction_at, instruction_columns, with_line}
use Rattle.mon_instructions.specs.Made.{has_bytes_of}
use Rattle.mon_instructions.specs.declared.wording.TheConstants.{DATA, FURTHER_DATA}

-- ---- where rows end

abbrev pub stands : State → Option Row → Bool
stands state None = false
stands state (Some row) = has_bytes_of state row

-- Whether a line begins at an address whose first bytes memory has.
abbrev pub begins_line : State → List Row → ℕ → Bool
begins_line state lines address = stands state (row_at lines address)

-- Whether an instruction of so many bytes would run into such a line. $0000 comes after $FFFF.
abbrev pub is_cut : ℕ → State → List Row → ℕ → Bool
is_cut len state lines address
    = (nat_lt 1 len && begins_line state lines ((address + 1) % 65536))
    || (nat_lt 2 len && begins_line state lines ((address + 2) % 65536))

-- How many bytes a row has that are data: up to three of a line that is no instruction, one of an
-- instruction that would run into a line, otherwise none.
abbrev pub data_len : State → List Row → ℕ → ℕ
data_len state lines address = if nat_lt 0 (data_left lines address)
    then min (data_left lines address) 3
    else if is_cut (instruction_at state address).len state lines address then 1 else 0

-- How many bytes a row has.
unfoldable pub listed_len : State → List Row → ℕ → ℕ
listed_len state lines address = if data_len state lines address == 0
    then (instruction_at state address).len else data_len state lines address

-- ---- their text

abbrev pub further_byte : ℕ → List ℕ
further_byte byte = FURTHER_DATA.now ++ hex_byte byte

-- Bytes as a source writes them: `.BYTE $48,$49`.
abbrev pub data_text : List ℕ → List ℕ
data_text [] = []
data_text (byte ∷ bytes) = DATA.now ++ hex_byte byte ++ flat_map further_byte bytes

abbrev pub data_columns : ℕ → State → ℕ → List ℕ
data_columns len state address
    = front_columns len state address ++ data_text (take len (bytes_at state address))

-- An instruction, or so many bytes of data.
abbrev pub columns_of : ℕ → State → List Named → ℕ → List ℕ
columns_of len state names address = if len == 0 then instruction_columns state names address
    else data_columns len state address

-- The line of an address: an instruction or data, with the line of the source that begins there.
unfoldable pub listed_line : State → PlacesView → ℕ → List ℕ
listed_line state places address = with_line places.sources (row_at places.lines address)
    (columns_of (data_len state places.lines address) state places.names address) ++ codes "\n"
