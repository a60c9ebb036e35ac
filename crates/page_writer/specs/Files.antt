-- What a page says of the sources of a program that another tool built: a fact for each file and
-- each row, and the texts of the files, one behind another. Source: mos65.
use Rattle.std.specs.Prelude.{ℕ, Bool, true, false, List, [], ◌∷◌, ◌++◌, codes, decimal, length, Option, Some, None}
use Rattle.std.specs.List.{flat_map}
use Rattle.model.specs.Text.{hex_address}
use Rattle.page_writer.specs.InLine.{line_of}
use Rattle.source_map.specs.Lines.{PlacesView, SourceView}
use Rattle.source_map.specs.declared.rows.Row.{Row}

-- A file: how many lines its text has, and its name. A text that is not known has none.
unfoldable pub file_fact : SourceView → List ℕ
file_fact source = codes "file " ++ (decimal (length source.texts) ++ (codes " "
    ++ (line_of source.name ++ codes "\n")))

-- Whether the line begins with the bytes of the row, or has them besides others.
abbrev pub row_word : Bool → List ℕ
row_word true = codes "line "
row_word false = codes "part "

-- Whether they are an instruction.
abbrev pub row_end : Bool → List ℕ
row_end true = codes "\n"
row_end false = codes " data\n"

-- The bytes of a row: the number of their line, their address, and how many they are.
unfoldable pub row_numbers : Row → List ℕ
row_numbers row = decimal row.line ++ (codes " " ++ (hex_address row.address ++ (codes " "
    ++ decimal row.count)))

-- The same, and behind them the number of the file, counted from 0.
unfoldable pub row_fact : Row → List ℕ
row_fact row = row_word row.begins_line ++ (row_numbers row ++ (codes " " ++ (decimal row.file
    ++ row_end row.is_instruction)))

-- The files by number, and the rows by address.
abbrev pub debug_facts : PlacesView → List ℕ
debug_facts places = flat_map file_fact places.sources ++ flat_map row_fact places.lines

abbrev pub facts_by : Option PlacesView → List ℕ
facts_by None = []
facts_by (Some places) = debug_facts places

-- ---- the texts

-- A line, with its LF.
abbrev pub with_end : List ℕ → List ℕ
with_end text = text ++ 10 ∷ []

abbrev pub file_text : SourceView → List ℕ
file_text source = flat_map with_end source.texts

-- The texts of the files by number.
abbrev pub files_text : Option PlacesView → List ℕ
files_text None = []
files_text (Some places) = flat_map file_text places.sources
