-- Instructions with names, and their lines. Source: mos65.
use Rattle.std.specs.Prelude.{ℕ, ◌+◌, ◌-◌, ◌%◌, ◌==◌, ◌&&◌, ◌||◌, not, false, nat_le, if◌then◌else◌, Bool, List, [], ◌∷◌, ◌++◌, Option, None, Some, codes, decimal, drop, take, slice_get, slice_index, length, unwrap_or}
use Rattle.std.specs.List.{flat_map, prefix_len}
use Rattle.model.specs.State.{State}
use Rattle.model.specs.Text.{hex_address, hex_byte}
use Rattle.model.specs.Token.{begins}
use Rattle.model.specs.InstructionText.{TextRow, row_of}
use Rattle.mon_line_parts.specs.Reading.{number_in}
use Rattle.source_map.specs.Lines.{PlacesView, SourceView, row_at, site_words}
use Rattle.source_map.specs.Names.{Named, name_at}
use Rattle.source_map.specs.declared.rows.Row.{Row}
use Rattle.formatting.specs.Padding.{padded}
use Rattle.mon_instructions.specs.declared.wording.TheConstants.{NEXT}

-- ---- a name in place of an address

abbrev pub is_no_dollar : ℕ → Bool
is_no_dollar b = not (b == 36)

-- A text before its first `$`, and behind it.
abbrev pub front_of : List ℕ → List ℕ
front_of row = take (prefix_len is_no_dollar row) row

abbrev pub behind_dollar : List ℕ → List ℕ
behind_dollar row = drop 1 (drop (prefix_len is_no_dollar row) row)

abbrev pub is_hex_digit : ℕ → Bool
is_hex_digit b = (nat_le 48 b && nat_le b 57) || (nat_le 65 b && nat_le b 70)

-- The hex digits behind the `$`, and what is behind them.
abbrev pub digits_of : List ℕ → List ℕ
digits_of row = take (prefix_len is_hex_digit (behind_dollar row)) (behind_dollar row)

abbrev pub rest_of : List ℕ → List ℕ
rest_of row = drop (prefix_len is_hex_digit (behind_dollar row)) (behind_dollar row)

abbrev pub is_hash : Option ℕ → Bool
is_hash None = false
is_hash (Some b) = b == 35

abbrev pub ends_in_hash : List ℕ → Bool
ends_in_hash row = is_hash (slice_get row (length row - 1))

-- Whether what stands behind a text is an address: no directive begins it, and no `#` ends it.
abbrev pub is_before_address : List ℕ → Bool
is_before_address front = not (begins (λ b. b == 46) front) && not (ends_in_hash front)

-- The name of a number that is an address.
abbrev pub name_of_number : List Named → ℕ → Option (List ℕ)
name_of_number names number = if nat_le number 65535 then name_at names number else None

-- The name of the address in the text of an instruction, if it has one.
abbrev pub name_in : List Named → List ℕ → Option (List ℕ)
name_in names row = if is_before_address (front_of row)
    then name_of_number names (unwrap_or (number_in 16 (digits_of row)) 65536) else None

abbrev pub with_name : List ℕ → Option (List ℕ) → List ℕ
with_name row None = row
with_name row (Some name) = front_of row ++ name ++ rest_of row

-- The text of an instruction, with a name in place of its address if that has one.
unfoldable pub named_text : List Named → List ℕ → List ℕ
named_text names row = with_name row (name_in names row)

-- ---- instructions of a state

-- The byte at an address and the two behind it. $0000 comes after $FFFF.
abbrev pub bytes_at : State → ℕ → List ℕ
bytes_at state address = slice_index state.bus.memory address
    ∷ slice_index state.bus.memory ((address + 1) % 65536)
    ∷ slice_index state.bus.memory ((address + 2) % 65536) ∷ []

-- The instruction at an address: its length and its text.
abbrev pub instruction_at : State → ℕ → TextRow
instruction_at state address = row_of state.bus.map.profile (bytes_at state address) address

-- The text of the instruction at an address, with names.
abbrev pub instruction_text : State → List Named → ℕ → List ℕ
instruction_text state names address = named_text names (instruction_at state address).text

-- The line that says which instruction comes next.
abbrev pub next_line : State → List Named → List ℕ
next_line state names
    = NEXT.now ++ instruction_text state names state.regs.pc ++ codes "\n"

-- ---- the line of an instruction

-- A byte with a blank behind it.
abbrev pub byte_column : ℕ → List ℕ
byte_column byte = hex_byte byte ++ 32 ∷ []

-- An address, and so many bytes from there on, at most three.
unfoldable pub front_columns : ℕ → State → ℕ → List ℕ
front_columns len state address = padded 16 (hex_address address ++ codes "  "
    ++ flat_map byte_column (take len (bytes_at state address)))

-- The address and the bytes of the instruction at an address.
abbrev pub instruction_front : State → ℕ → List ℕ
instruction_front state address = front_columns (instruction_at state address).len state address

-- The address, the bytes and the text of the instruction at an address.
abbrev pub instruction_columns : State → List Named → ℕ → List ℕ
instruction_columns state names address
    = instruction_front state address ++ instruction_text state names address

-- A row with the file and the number of a line of the source, if there is one.
unfoldable pub with_line : List SourceView → Option Row → List ℕ → List ℕ
with_line sources None row = row
with_line sources (Some site) row = padded 34 row ++ codes "; " ++ site_words sources site

-- The row of the instruction at an address: address, bytes, text, and the line of the source.
abbrev pub instruction_row : State → PlacesView → ℕ → List ℕ
instruction_row state places address = with_line places.sources (row_at places.lines address)
    (instruction_columns state places.names address)

abbrev pub instruction_line : State → PlacesView → ℕ → List ℕ
instruction_line state places address = instruction_row state places address ++ codes "\n"
