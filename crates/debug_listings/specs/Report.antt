-- What a report of ACME adds to what was read, line by line. Sources: those of ReportLines.antt; mos65
-- for the faults.
use Rattle.std.specs.Prelude.{ℕ, ◌+◌, ◌==◌, ◌||◌, nat_lt, Bool, false, if◌then◌else◌, List, length, position, Option, Some, None, Ok}
use Rattle.std.specs.Option.{option_map}
use Rattle.std.specs.Str.{bytes_eq}
use Rattle.debug_listings.specs.Reading.{Read, Reading, flushed, with_file}
use Rattle.debug_listings.specs.ReportLines.{ReportLine, nothing, head, row}
use Rattle.debug_listings.specs.declared.reading.Form.TheVariants.{Report}
use Rattle.debug_listings.specs.declared.reading.Span.{Span as Begun}
use Rattle.debug_listings.specs.declared.report_line.ReportBytes.{ReportBytes}
use Rattle.debug_records.specs.Faults.{◌>>=◌}
use Rattle.debug_records.specs.Info.{Table}
use Rattle.debug_records.specs.Records.{File}

-- ---- a head: files are numbered in the order of their first heads

abbrev pub is_named : List ℕ → Option File → Bool
is_named name None = false
is_named name (Some file) = bytes_eq file.name name

abbrev pub place_or : ℕ → Option ℕ → ℕ
place_or other None = other
place_or other (Some at) = at

abbrev pub number_of : List ℕ → Table File → ℕ
number_of name files = place_or (length files) (position (is_named name) files)

-- ACME shows no line that its last sign of its file ends, nor one that includes a file. Bytes of it
-- come with the first line behind the head, except behind the first head.
abbrev pub is_late : Reading → Bool
is_late r = nat_lt 0 (length r.info.files)

abbrev pub with_source : List ℕ → List ℕ → Reading → Read
with_source line name r
    = with_file line (number_of name r.info.files) name (record r { form = Report (is_late r) })

-- ---- a row

abbrev pub begins_behind : Begun → Option ℕ → Bool
begins_behind begun None = false
begins_behind begun (Some next) = begun.start + begun.size == next

-- The bytes of a row stand one behind another if this was told, or if the next row begins behind them.
-- Otherwise the first one alone is known.
abbrev pub known : Option ℕ → Begun → Begun
known next begun = if begun.is_close || begins_behind begun next then begun
    else record begun { size = 1 }

abbrev pub settled : Option ℕ → Reading → Reading
settled next r = record r { last = option_map (known next) r.last }

-- A row's bytes are those of its line, if its file is known, and no other line's come with them.
abbrev pub begun_in : Option ℕ → Bool → ℕ → ReportBytes → Option Begun
begun_in None late number bytes = None
begun_in (Some file) late number bytes = if late then None else Some (record {
  file = file;
  line = number;
  start = bytes.start;
  size = bytes.count;
  is_data = false;
  is_close = bytes.is_close;
})

abbrev pub with_shown : List ℕ → Bool → ℕ → ReportBytes → Reading → Read
with_shown line late number bytes r = flushed line (settled (Some bytes.start) r) >>= λ more.
    Ok (record more { last = begun_in more.file late number bytes })

abbrev pub with_shown_if : List ℕ → Bool → ℕ → Option ReportBytes → Reading → Read
with_shown_if line late number None r = Ok r
with_shown_if line late number (Some bytes) r = with_shown line late number bytes r

-- Behind a line where a file ended the file is not known.
abbrev pub behind_line : Bool → Reading → Reading
behind_line ends_file r = record r {
  form = Report false;
  file = if ends_file then None else r.file;
}

-- ---- a line

abbrev pub with_report_line : List ℕ → Bool → ReportLine → Reading → Read
with_report_line line late nothing r = Ok r
with_report_line line late (head name) r = with_source line name r
with_report_line line late (row number bytes ends_file) r
    = with_shown_if line late number bytes (behind_line ends_file r)
