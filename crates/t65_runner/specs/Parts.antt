-- Which lines of a file are tests, and which rows are run before and after each. Source: mos65.
use Rattle.std.specs.Prelude.{ℕ, Bool, true, false, List, [], ◌∷◌, Option, Some, None, if◌then◌else◌, map}
use Rattle.std.specs.Borrow.{Bor}
use Rattle.std.specs.List.{filter, flat_map}
use Rattle.t65_reader.specs.RowText.{SeenLine, SeenRow, faulty, line_seen, readable}
use Rattle.t65_reader.specs.declared.row.Line.{Line}
use Rattle.t65_reader.specs.declared.row.Part.{Part}
use Rattle.t65_reader.specs.declared.row.Part.TheVariants.{Test, Setup, Teardown}

abbrev pub is_part : Part → Part → Bool
is_part Test Test = true
is_part Setup Setup = true
is_part Teardown Teardown = true
is_part part other = false

-- Whether a row is of a part.
abbrev pub is_of : Part → ℕ × SeenRow → Bool
is_of part row = is_part part row.1.part

-- The row of a line, if it is one of a part.
abbrev pub row_in : Part → SeenLine → Option (ℕ × SeenRow)
row_in part (readable row) = if is_of part row then Some row else None
row_in part (faulty row) = None

abbrev pub one_or_none : Option (ℕ × SeenRow) → List (ℕ × SeenRow)
one_or_none None = []
one_or_none (Some row) = row ∷ []

abbrev pub listed : Part → SeenLine → List (ℕ × SeenRow)
listed part line = one_or_none (row_in part line)

-- The rows of a part, in their order.
abbrev pub rows_of : Part → List SeenLine → List (ℕ × SeenRow)
rows_of part lines = flat_map (listed part) lines

-- Whether a line is a test: a row that is one, or what cannot be read.
abbrev pub is_test : SeenLine → Bool
is_test (readable row) = is_of Test row
is_test (faulty row) = true

-- The lines that are tests, in their order.
abbrev pub tests_of : List SeenLine → List SeenLine
tests_of lines = filter is_test lines

-- Lines without where they lie in memory.
abbrev pub lines_seen : List (Bor Line) → List SeenLine
lines_seen lines = map line_seen lines
