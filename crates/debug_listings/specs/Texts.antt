-- What a listing or a report denotes, or which fault is its first. Sources: those of Lines.antt and
-- ReportLines.antt; mos65 for the limits and the faults.
use Rattle.std.specs.Prelude.{ℕ, ◌+◌, ◌^◌, ◌||◌, nat_lt, Bool, true, false, if◌then◌else◌, List, [], ◌∷◌, codes, length, Option, Some, None, Result, Ok, Err}
use Rattle.model.specs.TextLines.{lines_of}
use Rattle.debug_listings.specs.Lines.{begins, said_by}
use Rattle.debug_listings.specs.Listing.{with_columns, with_said}
use Rattle.debug_listings.specs.Reading.{Read, Reading, flushed, nothing_read}
use Rattle.debug_listings.specs.Report.{settled, with_report_line}
use Rattle.debug_listings.specs.ReportLines.{report_line}
use Rattle.debug_listings.specs.declared.reading.Form.{Form}
use Rattle.debug_listings.specs.declared.reading.Form.TheVariants.{Listing, Report}
use Rattle.debug_records.specs.Faults.{◌>>=◌}
use Rattle.debug_records.specs.Info.{Info}
use Rattle.debug_records.specs.Reading.{at_start, in_line, place_of}
use Rattle.debug_records.specs.Records.{Segment}
use Rattle.debug_records.specs.declared.fault.DebugFault.{DebugFault}
use Rattle.debug_records.specs.declared.fault.DebugFaultKind.TheVariants.{NoColumns, TooLarge}

-- ---- a line

abbrev pub with_line : Form → List ℕ → Reading → Read
with_line (Listing None) line r = with_columns line r
with_line (Listing (Some columns)) line r = said_by columns.has_run line >>= λ said. with_said line said r
with_line (Report late) line r = report_line line >>= λ shown. with_report_line line late shown r

unfoldable pub with_text : List ℕ → Reading → Read
with_text line r = with_line r.form line r

-- ---- the whole

unfoldable pub lines_read : ℕ → List (List ℕ) → Reading → Result Reading DebugFault
lines_read number [] r = Ok r
lines_read number (line ∷ lines) r
    = in_line (place_of number line) (with_text line r) >>= lines_read (number + 1) lines

-- All of memory is one segment. It counts as read only: its bytes are known, so it can have code.
abbrev pub memory : Segment
memory
    = record { name = []; start = 0; size = 65536; is_read_only = true; output = None }

abbrev pub in_memory : Info → Info
in_memory info = record info { segments = Some memory ∷ [] }

abbrev pub info_in : Reading → Result Info DebugFault
info_in r = Ok (in_memory r.info)

abbrev pub flushed_last : Reading → Result Reading DebugFault
flushed_last r = in_line (place_of 1 []) (flushed [] r)

abbrev pub ended : Reading → Result Info DebugFault
ended r = flushed_last r >>= info_in

abbrev pub info_by : Form → Reading → Result Info DebugFault
info_by (Listing None) r = at_start NoColumns
info_by (Listing (Some columns)) r = ended r
info_by (Report late) r = ended (settled None r)

unfoldable pub finished : Reading → Result Info DebugFault
finished r = info_by r.form r

-- A text has 16 MiB at most.
unfoldable pub text_info : Form → List ℕ → Result Info DebugFault
text_info form text = if nat_lt (2 ^ 24) (length text) then at_start TooLarge
    else lines_read 1 (lines_of text) (nothing_read form) >>= finished

abbrev pub listing_info : List ℕ → Result Info DebugFault
listing_info text = text_info (Listing None) text

abbrev pub report_info : List ℕ → Result Info DebugFault
report_info text = text_info (Report false) text

-- What a listing begins with, behind an empty line.
abbrev pub is_listing : List ℕ → Bool
is_listing text = begins text (codes "\n; 64tass ") || begins text (codes "\r\n; 64tass ")

-- What a report begins with, behind an empty line.
abbrev pub is_report : List ℕ → Bool
is_report text = begins text (codes "\n; ******** Source: ")
    || begins text (codes "\r\n; ******** Source: ")
