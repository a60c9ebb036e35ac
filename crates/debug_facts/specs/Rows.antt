-- What is said of debug information, in rows. Source: mos65.
use Rattle.std.specs.Prelude.{ℕ, zero, suc, ◌+◌, ◌-◌, ◌^◌, ◌==◌, ◌&&◌, nat_le, nat_lt, Bool, true, false, is_some, if◌then◌else◌, List, [], ◌++◌, codes, decimal, length, slice_index_or, Option, Some, None}
use Rattle.std.specs.Fmt.{digits, format_spec, padded_integral}
use Rattle.std.specs.List.{count_by, flat_map}
use Rattle.std.specs.Str.Lossy.{utf8_lossy}
use Rattle.arguments.specs.FaultLines.{number_part}
use Rattle.arguments.specs.Shown.{shown_name}
use Rattle.debug_facts.specs.declared.form.DebugForm.{DebugForm}
use Rattle.debug_facts.specs.declared.form.DebugForm.TheVariants.{Linker, Listing, Report}
use Rattle.debug_facts.specs.declared.wording.TheConstants as word
use Rattle.debug_files.specs.Told.{name_of, note_of, number_of, place_of}
use Rattle.debug_files.specs.declared.changed.SourceState.{SourceState}
use Rattle.debug_files.specs.declared.changed.SourceState.TheVariants.{Same, Changed, Missing}
use Rattle.debug_listings.specs.Lines.{begins}
use Rattle.debug_listings.specs.Texts.{is_listing, is_report}
use Rattle.debug_records.specs.Info.{Info, Table, is_ambiguous, record_at}
use Rattle.debug_records.specs.Records.{File, Output, Segment}
use Rattle.debug_records.specs.declared.fault.DebugFault.{DebugFault}
use Rattle.debug_records.specs.declared.record.Line.{Line}

-- ---- which tool wrote it, by its first bytes

unfoldable pub form_of : List ℕ → Option DebugForm
form_of text = if begins text (codes "version\t") then Some Linker
    else if is_listing text then Some Listing
    else if is_report text then Some Report
    else None

-- ---- the first row: `debug   ld65, 25 lines`

-- How many things there are, with the word for one or for more.
unfoldable pub counted : ℕ → List ℕ → List ℕ → List ℕ
counted count one more = decimal count ++ codes " " ++ (if count == 1 then one else more)

abbrev pub head_of : DebugForm → List ℕ
head_of Linker = word.LINKER.now
head_of Listing = word.LISTING.now
head_of Report = word.REPORT.now

unfoldable pub head_row : DebugForm → Table Line → List ℕ
head_row form lines = head_of form
    ++ counted (count_by is_some lines) word.LINE.now word.LINES.now ++ codes "\n"

-- ---- files: `file    main.s  459 bytes, found`

-- Names as they are shown: a control character is `?`, and what is no text is U+FFFD.
abbrev pub shown_bytes : List ℕ → List ℕ
shown_bytes name = shown_name (utf8_lossy name)

abbrev pub size_text : Option ℕ → List ℕ
size_text None = []
size_text (Some size) = codes "  " ++ counted size word.BYTE.now word.BYTES.now

abbrev pub state_word : SourceState → List ℕ
state_word Same = word.SAME.now
state_word Changed = word.CHANGED.now
state_word Missing = word.MISSING.now

abbrev pub twice_word : Bool → List ℕ
twice_word true = word.TWICE.now
twice_word false = []

unfoldable pub known_file_row : Bool → File → SourceState → List ℕ
known_file_row is_twice file state = word.FILE_ROW.now ++ shown_bytes file.name
    ++ size_text file.size ++ state_word state ++ twice_word is_twice ++ codes "\n"

abbrev pub file_row : Bool → Option File → SourceState → List ℕ
file_row is_twice None state = []
file_row is_twice (Some file) state = known_file_row is_twice file state

unfoldable pub file_row_at : Info → List SourceState → ℕ → List ℕ
file_row_at info states number = file_row (is_ambiguous info number)
    (record_at info.files number) (slice_index_or states number Missing)

-- The rows of so many files from a number on, and of all.
unfoldable pub file_rows_from : Info → List SourceState → ℕ → ℕ → List ℕ
file_rows_from info states number zero = []
file_rows_from info states number (suc count)
    = file_row_at info states number ++ file_rows_from info states (number + 1) count

abbrev pub file_rows : Info → List SourceState → List ℕ
file_rows info states = file_rows_from info states 0 (length info.files)

-- ---- segments that have bytes: where each runs, and where its bytes are in a file of the linker,
-- as `segment CODE  E000-E01D  banks.rom+0000`

-- A number as four hex digits, or more.
abbrev pub hex_text : ℕ → List ℕ
hex_text number = padded_integral (format_spec 32 0 4 4 (2 ^ 64 - 1)) false []
    (digits 16 true number)

unfoldable pub stretch_text : ℕ → ℕ → List ℕ
stretch_text first last = hex_text first ++ codes "-" ++ hex_text last

unfoldable pub output_text : Output → List ℕ
output_text output = codes "  " ++ shown_bytes output.name ++ codes "+" ++ hex_text output.offset

abbrev pub place_text : Option Output → List ℕ
place_text None = []
place_text (Some output) = output_text output

unfoldable pub known_segment_row : Segment → List ℕ
known_segment_row segment = word.SEGMENT_ROW.now ++ shown_bytes segment.name ++ codes "  "
    ++ stretch_text segment.start (segment.start + segment.size - 1)
    ++ place_text segment.output ++ codes "\n"

abbrev pub some_segment_row : Segment → List ℕ
some_segment_row segment = if nat_lt 0 segment.size then known_segment_row segment else []

abbrev pub segment_row : Option Segment → List ℕ
segment_row None = []
segment_row (Some segment) = some_segment_row segment

abbrev pub segment_rows : Table Segment → List ℕ
segment_rows segments = flat_map segment_row segments

-- A listing or a report has none.
abbrev pub segments_text : DebugForm → Info → List ℕ
segments_text Linker info = segment_rows info.segments
segments_text Listing info = []
segments_text Report info = []

-- ---- all of these

unfoldable pub known_text : DebugForm → Info → List SourceState → List ℕ
known_text form info states = head_row form info.lines ++ file_rows info states
    ++ segments_text form info

-- ---- addresses of which no line is shown, with the segments that stand there, as
-- `hidden  8000-8002  no line is shown; segments BANK1 BANK2`

abbrev pub has_address : ℕ → ℕ → Segment → Bool
has_address first last segment = nat_lt 0 segment.size && nat_le segment.start last
    && nat_lt first (segment.start + segment.size)

abbrev pub name_if : ℕ → ℕ → Option Segment → List ℕ
name_if first last None = []
name_if first last (Some segment) = if has_address first last segment
    then codes " " ++ shown_bytes segment.name else []

abbrev pub names_text : ℕ → ℕ → Table Segment → List ℕ
names_text first last segments = flat_map (name_if first last) segments

unfoldable pub hidden_row : ℕ → ℕ → Table Segment → List ℕ
hidden_row first last segments = word.HIDDEN_ROW.now ++ stretch_text first last
    ++ word.NONE_SHOWN.now ++ names_text first last segments ++ codes "\n"

-- ---- debug information with a fault: where, its name and number, and what it means

unfoldable pub fault_text : List ℕ → DebugFault → List ℕ
fault_text file fault = shown_name file ++ codes ": " ++ place_of fault ++ name_of fault.kind
    ++ number_part (Some (number_of fault.kind)) ++ note_of fault.kind ++ codes "\n"
