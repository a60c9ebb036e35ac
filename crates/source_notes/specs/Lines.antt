-- The lines of a source, and the names that they begin with. Source: mos65.
use Rattle.std.specs.Prelude.{ℕ, ◌+◌, ◌-◌, ◌==◌, ◌||◌, min, Bool, false, if◌then◌else◌, List, [], ◌∷◌, Option, None, Some, drop, map, slice_get, take}
use Rattle.std.specs.Borrow.{Bor}
use Rattle.std.specs.List.{prefix_len}
use Rattle.model.specs.Token.{is_blank, is_word_byte}
use Rattle.source_notes.specs.declared.lines.Name.{Name}

-- Texts behind references.
abbrev pub texts_of : List (Bor (List ℕ)) → List (List ℕ)
texts_of slices = map (λ slice. slice.now) slices

-- The line of this number among lines, counted from 1, if there is one. 0 counts as 1.
abbrev pub line_of : List (List ℕ) → ℕ → Option (List ℕ)
line_of lines number = slice_get lines (number - 1)

-- A line, empty where there is none.
abbrev pub line_or_none : Option (List ℕ) → List ℕ
line_or_none None = []
line_or_none (Some line) = line

abbrev pub without_blanks : List ℕ → List ℕ
without_blanks text = drop (prefix_len is_blank text) text

-- What `:` or `=` stands at the front of.
abbrev pub defines : List ℕ → Bool
defines [] = false
defines (b ∷ rest) = (b == 58) || (b == 61)

-- A word of one byte or more is a name if `:` or `=` stands behind it.
abbrev pub name_of_length : ℕ → List ℕ → Option (List ℕ)
name_of_length count text =
    if count == 0 then None
    else if defines (without_blanks (drop count text)) then Some (take count text) else None

-- The name that a line begins with.
unfoldable pub name_of : List ℕ → Option (List ℕ)
name_of line = name_of_length (prefix_len is_word_byte (without_blanks line)) (without_blanks line)

-- A name, if there is one, before others.
abbrev pub with_name : Option (List ℕ) → ℕ → List (List ℕ × ℕ) → List (List ℕ × ℕ)
with_name None number names = names
with_name (Some name) number names = (name, number) ∷ names

-- The names of lines, each with its line's number: one more than that of the line before, and the
-- highest number for all lines that come after that.
unfoldable pub names_from : ℕ → List (List ℕ) → List (List ℕ × ℕ)
names_from before [] = []
names_from before (line ∷ lines) = with_name (name_of line) (min (before + 1) 4294967295)
    (names_from (min (before + 1) 4294967295) lines)

abbrev pub names_of : List (List ℕ) → List (List ℕ × ℕ)
names_of lines = names_from 0 lines

-- A name and its line, behind a reference.
abbrev pub name_view : Name → List ℕ × ℕ
name_view name = (name.text.now, name.line)
