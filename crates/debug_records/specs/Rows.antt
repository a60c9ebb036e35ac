-- Which bytes came from which line: a row for each span of each line, in the order of the file.
-- Source: mos65.
use Rattle.std.specs.Prelude.{◌≡◌, ℕ, ◌+◌, ◌-◌, ◌<◌, ◌==◌, ◌&&◌, ◌||◌, nat_le, nat_lt, not, Bool, true, false, is_some, if◌then◌else◌, List, [], ◌∷◌, filter, length, Option, Some, None}
use Rattle.std.specs.List.{filter_map}
use Rattle.std.specs.Option.{option_and_then}
use Rattle.debug_records.specs.Info.{Info, is_ambiguous, record_at}
use Rattle.debug_records.specs.Records.{Segment}
use Rattle.debug_records.specs.declared.info.Use.{Use}
use Rattle.debug_records.specs.declared.record.Line.{Line}
use Rattle.debug_records.specs.declared.record.LineKind.{LineKind}
use Rattle.debug_records.specs.declared.record.LineKind.TheVariants as kind
use Rattle.debug_records.specs.declared.record.Span.{Span}
use Rattle.debug_records.specs.declared.row.Row.{Row}
use Rattle.debug_records.specs.declared.row.Wanted.{Wanted}
use Rattle.debug_records.specs.declared.row.Wanted.TheVariants as wants

-- A span stands in its segment, at the address where the segment runs.
abbrev pub first_address : Span → Segment → ℕ
first_address span segment = segment.start + span.start

abbrev pub is_parameter : LineKind → Bool
is_parameter kind.Assembler = false
is_parameter kind.C = false
is_parameter kind.Macro = false
is_parameter kind.Parameter = true

-- A segment that can be written, and whose bytes are in no file of the linker, has no code.
abbrev pub has_no_code : Segment → Bool
has_no_code segment = not segment.is_read_only && not (is_some segment.output)

-- The text of a macro's parameter has no row: its bytes are those of a line of the body.
abbrev pub row_with : Line → Span → Segment → Option Row
row_with line span segment = if is_parameter line.kind then None else Some (record {
  file = line.file;
  line = line.line;
  kind = line.kind;
  depth = line.depth;
  start = first_address span segment;
  end = first_address span segment + span.size;
  has_code = not (has_no_code segment);
  is_data = span.is_data || has_no_code segment;
})

unfoldable pub row_of : Info → Use → Option Row
row_of info used =
    option_and_then (λ line.
    option_and_then (λ span.
    option_and_then (row_with line span) (record_at info.segments span.segment))
    (record_at info.spans used.span))
    (record_at info.lines used.line)

abbrev pub rows_of : Info → List Row
rows_of info = filter_map (row_of info) info.uses

-- ---- rows that are told apart from others

-- Whether a row and a segment have an address together. One without code hides no code: BSS may lie
-- over code that has run before it.
abbrev pub meets : Row → Option Segment → Bool
meets row None = false
meets row (Some segment) = not (row.has_code && has_no_code segment) && nat_lt 0 segment.size
    && nat_lt row.start (segment.start + segment.size) && nat_lt segment.start row.end

-- Whether a row has an address together with two segments, or with one where one was found before.
abbrev pub is_shared : Row → Bool → List (Option Segment) → Bool
is_shared row found [] = false
is_shared row found (segment ∷ segments) = if meets row segment
    then (if found then true else is_shared row true segments)
    else is_shared row found segments

-- A file may be two of one name, and where two segments run at an address, as in banks, it is not
-- known whose bytes are there.
abbrev pub is_clear : Info → Row → Bool
is_clear info row = not (is_ambiguous info row.file) && not (is_shared row false info.segments)

-- Other rows are not shown.
abbrev pub clear_rows : Info → List Row → List Row
clear_rows info rows = filter (is_clear info) rows

-- ---- an address

abbrev pub covers : ℕ → Row → Bool
covers address row = nat_le row.start address && nat_lt address row.end

abbrev pub rows_at : List Row → ℕ → List Row
rows_at rows address = filter (covers address) rows

-- ---- the best row of an address

abbrev pub size_of : Row → ℕ
size_of row = row.end - row.start

-- Of two rows with as many bytes the one that stands deeper in macros and loops is narrower.
abbrev pub is_narrower : Row → Row → Bool
is_narrower row other = nat_lt (size_of row) (size_of other)
    || (size_of row == size_of other && nat_lt other.depth row.depth)

-- C stands before a line of the assembler, which has the bytes of the macro that it calls, and this
-- before the body of a macro.
abbrev pub rank : LineKind → ℕ
rank kind.C = 0
rank kind.Assembler = 1
rank kind.Macro = 2
rank kind.Parameter = 3

-- What is shown is what the author wrote, and of that the narrowest.
abbrev pub is_better : Wanted → Row → Row → Bool
is_better wants.Shown row other = nat_lt (rank row.kind) (rank other.kind)
    || (rank row.kind == rank other.kind && is_narrower row other)
is_better wants.Begun row other = is_narrower row other

abbrev pub better : Wanted → Option Row → Row → Row
better wanted None row = row
better wanted (Some best) row = if is_better wanted row best then row else best

abbrev pub passes : Wanted → ℕ → Row → Bool
passes wants.Shown address row = covers address row
passes wants.Begun address row = covers address row && row.start == address

abbrev pub with_row : Wanted → ℕ → Option Row → Row → Option Row
with_row wanted address best row
    = if passes wanted address row then Some (better wanted best row) else best

-- The first of the best rows of an address.
abbrev pub best_of : Wanted → ℕ → Option Row → List Row → Option Row
best_of wanted address best [] = best
best_of wanted address best (row ∷ rows)
    = best_of wanted address (with_row wanted address best row) rows

abbrev pub shown_at : List Row → ℕ → Option Row
shown_at rows address = best_of wants.Shown address None rows

-- The narrowest row that begins at an address.
abbrev pub begun_at : List Row → ℕ → Option Row
begun_at rows address = best_of wants.Begun address None rows

-- ---- a table of the best rows

-- The address behind the last one at which a row is looked for.
abbrev pub behind : Wanted → Row → ℕ
behind wants.Shown row = row.end
behind wants.Begun row = if nat_lt row.start row.end then row.start + 1 else row.start

-- A table has the best row of each of the 65,536 addresses.
pub record IsTable (table : List (Option Row)) (best : ℕ → Option Row) : Type 0 where
  pub size : length table ≡ 65536
  pub rows : (address : ℕ) → address < 65536 → record_at table address ≡ best address
