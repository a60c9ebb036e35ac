-- How often the lines of a source were run, as lcov reads it. Source: lcov 1.16, geninfo(1), FILES.
use Rattle.std.specs.Prelude.{ℕ, ◌+◌, ◌==◌, nat_lt, max, Bool, true, ◌&&◌, ◌||◌, if◌then◌else◌, List, [], ◌∷◌, ◌++◌, Option, None, Some, codes, decimal, map, slice_index}
use Rattle.std.specs.List.{flat_map}
use Rattle.accesses.specs.Tallies.{Counts}
use Rattle.assembler.specs.Assembly.{AssemblyView, source_lines}
use Rattle.source_map.specs.Lines.{PlacesView, SourceView, rows_of}
use Rattle.source_map.specs.declared.rows.Row.{Row}

-- A line, and how often it was run.
abbrev pub run_text : ℕ → ℕ → List ℕ
run_text line visits = codes "DA:" ++ decimal line ++ codes "," ++ decimal visits ++ codes "\n"

-- A byte of a file's name. A control byte might end the line, and is shown as `?`.
abbrev pub name_byte : ℕ → ℕ
name_byte byte = if nat_lt byte 32 || byte == 127 then 63 else byte

-- The record of a file: its name, the rows of its lines, and its end.
abbrev pub file_record : List ℕ → List ℕ → List ℕ
file_record file rows = codes "SF:" ++ map name_byte file ++ codes "\n" ++ rows
    ++ codes "end_of_record\n"

-- ---- of a source, which is one file

-- A line that is an instruction, and how often a step began at that instruction.
unfoldable pub row_text : Counts → Row → List ℕ
row_text counts row = run_text row.line (slice_index counts.visits row.address)

abbrev pub line_text : Counts → Row → List ℕ
line_text counts row = if row.is_instruction then row_text counts row else []

-- The record of a source: its instructions in the order of their lines.
unfoldable pub record_text : List ℕ → AssemblyView → Counts → List ℕ
record_text file assembly counts = file_record file
    (flat_map (line_text counts) (rows_of assembly.image (source_lines assembly)))

-- ---- by places

-- Whether a row is an instruction of a file, and a line begins there.
abbrev pub begins_in : ℕ → Row → Bool
begins_in file row = row.file == file && row.begins_line && row.is_instruction

abbrev pub is_below : ℕ → Option ℕ → Bool
is_below line None = true
is_below line (Some best) = nat_lt line best

-- The line of a row that begins one, if that is behind a line, and below the best so far.
abbrev pub with_begun : ℕ → ℕ → Option ℕ → Row → Option ℕ
with_begun file line best row
    = if begins_in file row && nat_lt line row.line && is_below row.line best
    then Some row.line else best

-- The lowest line of a file behind a line, of those that begin in rows.
unfoldable pub line_behind : ℕ → ℕ → Option ℕ → List Row → Option ℕ
line_behind file line best [] = best
line_behind file line best (row ∷ rows)
    = line_behind file line (with_begun file line best row) rows

abbrev pub then_lines : Option ℕ → (ℕ → List ℕ) → List ℕ
then_lines None lines = []
then_lines (Some line) lines = line ∷ lines line

-- The lines of a file that begin in rows, behind a line, in their order: as many as these rows at
-- most. Lines are counted from 1.
unfoldable pub lines_from : List Row → ℕ → ℕ → List Row → List ℕ
lines_from all file line [] = []
lines_from all file line (row ∷ rows) = then_lines (line_behind file line None all)
    (λ next. lines_from all file next rows)

abbrev pub with_visits : Counts → ℕ → ℕ → ℕ → Row → ℕ
with_visits counts file line most row = if begins_in file row && row.line == line
    then max most (slice_index counts.visits row.address) else most

-- How often a line was run: how often steps began where it does. One that begins several times, as
-- a loop of C, or a macro's line with each call, was run as often as its busiest beginning.
unfoldable pub visits_from : Counts → ℕ → ℕ → ℕ → List Row → ℕ
visits_from counts file line most [] = most
visits_from counts file line most (row ∷ rows)
    = visits_from counts file line (with_visits counts file line most row) rows

-- The rows of lines of a file.
abbrev pub run_line : Counts → List Row → ℕ → ℕ → List ℕ
run_line counts rows file line = run_text line (visits_from counts file line 0 rows)

abbrev pub lines_text : Counts → List Row → ℕ → List ℕ → List ℕ
lines_text counts rows file lines = flat_map (run_line counts rows file) lines

-- The record of a file in which some lines begin; none without a line.
abbrev pub record_with : Counts → List Row → ℕ → List ℕ → List ℕ → List ℕ
record_with counts rows file name [] = []
record_with counts rows file name (line ∷ lines)
    = file_record name (lines_text counts rows file (line ∷ lines))

-- The records of files, of which the first has a number.
unfoldable pub records_from : Counts → List Row → ℕ → List SourceView → List ℕ
records_from counts rows file [] = []
records_from counts rows file (source ∷ sources)
    = record_with counts rows file source.name (lines_from rows file 0 rows)
    ++ records_from counts rows (file + 1) sources

-- The records of the files of which lines are shown for a program.
abbrev pub records_text : PlacesView → Counts → List ℕ
records_text places counts = records_from counts places.lines 0 places.sources
