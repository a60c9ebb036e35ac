-- What a listing of 64tass adds to what was read, line by line. Sources: those of Lines.antt; mos65 for
-- the faults.
use Rattle.std.specs.Prelude.{ℕ, ◌+◌, ◌%◌, ◌==◌, ◌&&◌, ◌||◌, nat_le, Bool, true, false, is_some, if◌then◌else◌, List, codes, Option, Some, None, Ok, Err}
use Rattle.debug_listings.specs.Lines.{Said, nothing, head, row, repeated, begins}
use Rattle.debug_listings.specs.Reading.{Read, Reading, flushed, with_file}
use Rattle.debug_listings.specs.declared.line.Bytes.{Bytes}
use Rattle.debug_listings.specs.declared.reading.Form.{Form}
use Rattle.debug_listings.specs.declared.reading.Form.TheVariants.{Listing}
use Rattle.debug_listings.specs.declared.reading.Span.{Span as Begun}
use Rattle.debug_records.specs.Faults.{◌>>=◌, fault_at}
use Rattle.debug_records.specs.Info.{record_at}
use Rattle.debug_records.specs.declared.fault.DebugFaultKind.TheVariants.{NoColumns, NoLineNumber, NoNumbers, NoRecord}

abbrev pub with_head : List ℕ → ℕ → List ℕ → Reading → Read
with_head line number name r = flushed line r >>= with_file line number name

-- ---- a row

-- The file of a number is read, whose head came before.
abbrev pub in_file : List ℕ → Option ℕ → Reading → Read
in_file line None r = Ok r
in_file line (Some file) r = if is_some (record_at r.info.files file)
    then Ok (record r { file = Some file }) else Err (fault_at NoRecord line)

-- Bytes of the file that is read.
abbrev pub begun_by : ℕ → ℕ → Bytes → Begun
begun_by file number bytes = record {
  file = file;
  line = number;
  start = bytes.start;
  size = bytes.count;
  is_data = bytes.is_data;
  is_close = true;
}

abbrev pub with_begun : List ℕ → ℕ → Option ℕ → Bytes → Reading → Read
with_begun line number None bytes r = Err (fault_at NoRecord line)
with_begun line number (Some file) bytes r
    = Ok (record r { last = Some (begun_by file number bytes) })

abbrev pub with_numbered : List ℕ → ℕ → Bytes → Reading → Read
with_numbered line number bytes r
    = flushed line r >>= λ more. with_begun line number more.file bytes more

-- How many bytes of a line 64tass writes into its first row, if others follow, which have 16.
abbrev pub first_in : Form → ℕ
first_in (Listing (Some columns)) = columns.first
first_in other = 8

-- Whether the rows of data are full.
abbrev pub is_full : Form → Begun → Bool
is_full form begun = begun.is_data && begun.size % 16 == first_in form % 16

-- A row without a number goes on with the data of the line before it.
abbrev pub goes_on : Form → Begun → Bytes → Bool
goes_on form begun bytes = is_full form begun && bytes.is_data
    && (begun.start + begun.size == bytes.start)

abbrev pub with_more : List ℕ → Option Begun → Bytes → Reading → Read
with_more line None bytes r = Err (fault_at NoLineNumber line)
with_more line (Some begun) bytes r = if goes_on r.form begun bytes
    then Ok (record r { last = Some (record begun { size = begun.size + bytes.count }) })
    else Err (fault_at NoLineNumber line)

abbrev pub with_bytes : List ℕ → Option ℕ → Bytes → Reading → Read
with_bytes line None bytes r = with_more line r.last bytes r
with_bytes line (Some number) bytes r = with_numbered line number bytes r

-- A row without bytes is none.
abbrev pub with_bytes_if : List ℕ → Option ℕ → Option Bytes → Reading → Read
with_bytes_if line number None r = Ok r
with_bytes_if line number (Some bytes) r = if bytes.count == 0 then Ok r
    else with_bytes line number bytes r

-- Rows that are left out go on with the data before them, behind full rows, as far as memory goes.
abbrev pub can_repeat : Form → Begun → ℕ → Bool
can_repeat form begun count = is_full form begun && nat_le count 65536
    && nat_le (begun.size + count) 65536

abbrev pub with_repeated : List ℕ → Option Begun → ℕ → Reading → Read
with_repeated line None count r = Err (fault_at NoLineNumber line)
with_repeated line (Some begun) count r = if can_repeat r.form begun count
    then Ok (record r { last = Some (record begun { size = begun.size + count }) })
    else Err (fault_at NoLineNumber line)

-- ---- a line

abbrev pub with_said : List ℕ → Said → Reading → Read
with_said line nothing r = Ok r
with_said line (head number name) r = with_head line number name r
with_said line (row numbers bytes) r
    = in_file line numbers.file r >>= with_bytes_if line numbers.line bytes
with_said line (repeated count) r = with_repeated line r.last count r

-- Without the column of the source, or with it and without that of the monitor, first rows have more
-- or fewer bytes.
abbrev pub first_by : List ℕ → ℕ
first_by line = if begins line (codes ";Line\t;Offset\t;Hex\t\t;Monitor\t;Source")
    || begins line (codes ";Line\t;Offset\t;PC\t;Hex\t\t;Monitor\t;Source") then 8
    else if begins line (codes ";Line\t;Offset\t;Hex\t\t;Source")
    || begins line (codes ";Line\t;Offset\t;PC\t;Hex\t\t;Source") then 4
    else 16

abbrev pub with_form : Bool → List ℕ → Reading → Read
with_form has_run line r
    = Ok (record r { form = Listing (Some (record { has_run = has_run; first = first_by line })) })

-- The columns are named once, before the first file: with tabs of 8, and with numbers of lines.
abbrev pub with_columns : List ℕ → Reading → Read
with_columns line r = if begins line (codes ";Line\t;Offset\t;PC\t;Hex") then with_form true line r
    else if begins line (codes ";Line\t;Offset\t;Hex") then with_form false line r
    else if begins line (codes ";Offset") then Err (fault_at NoNumbers line)
    else if begins line (codes ";Line") then Err (fault_at NoColumns line)
    else Ok r
