-- Memory and the stack. Source: mos65.
use Rattle.std.specs.Prelude.{ℕ, ◌+◌, ◌-◌, ◌*◌, ◌/◌, ◌==◌, min, nat_le, if◌then◌else◌, List, [], ◌∷◌, ◌++◌, Option, None, Some, codes, drop, take}
use Rattle.std.specs.List.{flat_map, range_with_len}
use Rattle.model.specs.Text.{hex_address, hex_byte}
use Rattle.mon_lines.specs.declared.command.Stretch.{Stretch}
use Rattle.mon_instructions.specs.Instructions.{byte_column}
use Rattle.formatting.specs.Padding.{padded}
use Rattle.mon_instructions.specs.Characters.{shown_character}
use Rattle.mon_texts.specs.declared.wording.TheConstants.{GOES_ON, MEMORY_PART, STACK_EMPTY}

-- ---- memory

-- So many bytes from an address on.
abbrev pub bytes_from : List ℕ → ℕ → ℕ → List ℕ
bytes_from memory first count = take count (drop first memory)

abbrev pub character_text : ℕ → List ℕ
character_text byte = shown_character byte ∷ []

-- A row of memory: an address, so many bytes, and the characters beside them.
unfoldable pub memory_row : List ℕ → ℕ → ℕ → List ℕ
memory_row memory first count = padded 55 (hex_address first ++ codes "  "
    ++ flat_map byte_column (bytes_from memory first count))
    ++ flat_map character_text (bytes_from memory first count) ++ codes "\n"

-- The row of a number, of at most 16 bytes.
unfoldable pub numbered_row : List ℕ → ℕ → ℕ → ℕ → List ℕ
numbered_row memory first count row
    = memory_row memory (first + 16 * row) (min 16 (count - 16 * row))

abbrev pub memory_rows : List ℕ → ℕ → ℕ → List ℕ
memory_rows memory first count
    = flat_map (numbered_row memory first count) (range_with_len 0 ((count + 15) / 16))

-- How many bytes are shown at once.
abbrev pub shown_count : Stretch → ℕ
shown_count stretch = min 256 (stretch.last + 1 - stretch.first)

-- How it goes on if there are more.
abbrev pub next_of : Stretch → Option ℕ
next_of stretch
    = if nat_le (stretch.first + 256) stretch.last then Some (stretch.first + 256) else None

unfoldable pub goes_on_at : ℕ → List ℕ
goes_on_at next
    = MEMORY_PART.now ++ hex_address next ++ GOES_ON.now

abbrev pub goes_on : Option ℕ → List ℕ
goes_on None = []
goes_on (Some next) = goes_on_at next

abbrev pub memory_text : List ℕ → Stretch → List ℕ
memory_text memory stretch
    = memory_rows memory stretch.first (shown_count stretch) ++ goes_on (next_of stretch)

-- ---- the stack

-- A byte after a blank.
abbrev pub byte_after_blank : ℕ → List ℕ
byte_after_blank byte = 32 ∷ hex_byte byte

-- The bytes on the stack, the top one first.
abbrev pub stack_bytes : List ℕ → ℕ → List ℕ
stack_bytes memory stack = bytes_from memory (257 + stack) (255 - stack)

unfoldable pub stack_line : List ℕ → ℕ → List ℕ
stack_line memory stack = if stack == 255 then STACK_EMPTY.now
    else codes "S=" ++ hex_byte stack ++ codes ":"
    ++ flat_map byte_after_blank (stack_bytes memory stack) ++ codes "\n"
