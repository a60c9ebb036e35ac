-- Places in a text. Source: Language Server Protocol 3.17, "Text Documents" (lines end with LF, CR LF
-- or CR), "Position".
use Rattle.std.specs.Prelude.{ℕ, zero, suc, ◌+◌, ◌-◌, ◌==◌, ◌||◌, nat_le, Bool, not, if◌then◌else◌, List, [], ◌∷◌, length, take, drop, slice_range}
use Rattle.std.specs.List.{prefix_len}
use Rattle.lsp_messages.specs.Columns.{column_of, most}
use Rattle.lsp_messages.specs.declared.text_places.Place.{Place}

-- ---- lines

-- Neither LF nor CR.
abbrev pub is_in_line : ℕ → Bool
is_in_line b = not ((b == 10) || (b == 13))

-- How many bytes the first line of a text has, without its end.
abbrev pub line_size : List ℕ → ℕ
line_size text = prefix_len is_in_line text

-- A text without an LF at its front.
abbrev pub without_feed : List ℕ → List ℕ
without_feed [] = []
without_feed (b ∷ text) = if b == 10 then text else b ∷ text

-- What stands behind the end of a line at the front of a text: an LF behind a CR belongs to it.
abbrev pub behind_end : List ℕ → List ℕ
behind_end [] = []
behind_end (b ∷ text) = if b == 13 then without_feed text else text

-- What stands behind the first line of a text.
abbrev pub behind_line : List ℕ → List ℕ
behind_line text = behind_end (drop (line_size text) text)

-- A text from a line on, counted from 0; nothing where there is no such line.
unfoldable pub from_line : ℕ → List ℕ → List ℕ
from_line zero text = text
from_line (suc line) text = from_line line (behind_line text)

-- ---- places

-- A column of the first line of a text. One behind the end of the line is that end.
abbrev pub column_in : ℕ → List ℕ → ℕ
column_in character text = column_of character (take (line_size text) text)

-- A column of a line of a text of some size, by what the text has from that line on.
abbrev pub place_from : ℕ → ℕ → List ℕ → ℕ
place_from size character rest = (size - length rest) + column_in character rest

-- How many bytes of a text stand before a place. A line behind the last one is the end of the text.
abbrev pub place_in : List ℕ → Place → ℕ
place_in text place = place_from (length text) place.character (from_line place.line text)

-- ---- lines of a text, counted from 0

-- How many bytes of a text stand before a line, and before its end.
abbrev pub start_of_line : List ℕ → ℕ → ℕ
start_of_line text line = place_in text (record { line = line; character = 0 })

abbrev pub end_of_line : List ℕ → ℕ → ℕ
end_of_line text line = place_in text (record { line = line; character = most })

-- The lines from one to another, without the end of the last one.
abbrev pub lines_between : List ℕ → ℕ → ℕ → List ℕ
lines_between text first last = if nat_le (start_of_line text first) (end_of_line text last)
    then slice_range text (start_of_line text first) (end_of_line text last) else []
