-- The row of an instruction that is made. Source: mos65.
use Rattle.std.specs.Prelude.{ℕ, ◌==◌, ◌-◌, ◌&&◌, min, if◌then◌else◌, Bool, List, [], ◌∷◌, ◌++◌, Option, None, Some, codes, decimal, drop, take, length}
use Rattle.std.specs.Borrow.{Bor}
use Rattle.std.specs.Char.{is_ascii_whitespace}
use Rattle.std.specs.List.{flat_map, prefix_len, suffix_len}
use Rattle.std.specs.Option.{option_map}
use Rattle.std.specs.Str.{bytes_eq}
use Rattle.arguments.specs.Shown.{shown_bytes}
use Rattle.formatting.specs.Padding.{padded}
use Rattle.model.specs.State.{State}
use Rattle.source_map.specs.Lines.{PlacesView, SourceView, row_at, text_of, texts_at}
use Rattle.source_map.specs.declared.rows.Row.{Row}
use Rattle.mon_instructions.specs.Instructions.{bytes_at, instruction_front, instruction_row}

-- ---- the text of a line

abbrev pub without_front_blanks : List ℕ → List ℕ
without_front_blanks text = drop (prefix_len is_ascii_whitespace text) text

abbrev pub without_end_blanks : List ℕ → List ℕ
without_end_blanks text = take (length text - suffix_len is_ascii_whitespace text) text

-- A text without the blanks in front of it and behind it.
unfoldable pub trimmed : List ℕ → List ℕ
trimmed text = without_end_blanks (without_front_blanks text)

-- A tab is one blank.
abbrev pub blanked_byte : ℕ → List ℕ
blanked_byte byte = (if byte == 9 then 32 else byte) ∷ []

-- A line is shown as names of files are: a source that debug information names may have any bytes.
abbrev pub line_text : List ℕ → List ℕ
line_text line = shown_bytes (flat_map blanked_byte (trimmed line))

-- ---- a line that memory has as it is written

-- Whether memory has the first bytes of a line, at most three.
abbrev pub has_bytes_of : State → Row → Bool
has_bytes_of state row
    = bytes_eq (take (min row.count 3) (bytes_at state row.address)) (take (min row.count 3) row.bytes)

-- Whether a line is one instruction that memory has as it is written.
abbrev pub is_written : State → Row → Bool
is_written state row = row.is_instruction && row.is_whole_line && has_bytes_of state row

-- The number and the text of a line.
abbrev pub with_text : List SourceView → Row → Option (ℕ × List ℕ)
with_text sources row
    = option_map (λ text. (row.line, text)) (text_of (texts_at sources row.file) row.line)

abbrev pub if_written : State → List SourceView → Option Row → Option (ℕ × List ℕ)
if_written state sources None = None
if_written state sources (Some row) = if is_written state row then with_text sources row else None

-- The first line that begins at an address, if memory has it as it is written.
abbrev pub written_at : State → PlacesView → ℕ → Option (ℕ × List ℕ)
written_at state places address = if_written state places.sources (row_at places.lines address)

-- ---- its row

-- The address and the bytes of an instruction, and the number and the text of its line.
unfoldable pub source_row : State → ℕ → ℕ → List ℕ → List ℕ
source_row state address number line
    = padded 21 (instruction_front state address ++ decimal number ++ codes " ") ++ line_text line

abbrev pub row_or_source : State → PlacesView → ℕ → Option (ℕ × List ℕ) → List ℕ
row_or_source state places address None = instruction_row state places address
row_or_source state places address (Some line) = source_row state address line.0 line.1

-- The row of an instruction that is made: by its line as the source has it, if memory has it so;
-- otherwise as it is disassembled.
abbrev pub made_row : State → PlacesView → ℕ → List ℕ
made_row state places address = row_or_source state places address (written_at state places address)

abbrev pub made_line : State → PlacesView → ℕ → List ℕ
made_line state places address = made_row state places address ++ codes "\n"

-- A number and a text, without where it lies in memory.
abbrev pub line_view : Option (ℕ × Bor (List ℕ)) → Option (ℕ × List ℕ)
line_view line = option_map (λ p. (p.0, p.1.now)) line
