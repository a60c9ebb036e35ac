-- What a debug file denotes, or which fault is its first. Its first line is a record `version`. A
-- reference to a record is looked at when all lines were read, since records come in any order.
-- Sources: those of Fields.antt; mos65 for the limits and the faults.
use Rattle.std.specs.Prelude.{ℕ, ◌+◌, ◌^◌, ◌==◌, nat_lt, Bool, true, false, is_some, if◌then◌else◌, List, [], ◌∷◌, ◌++◌, codes, length, map, Option, Some, None, Result, Ok, Err}
use Rattle.std.specs.Option.{option_map}
use Rattle.std.specs.Str.{bytes_eq}
use Rattle.model.specs.TextLines.{lines_of}
use Rattle.debug_records.specs.Faults.{◌>>=◌, column_of, fault_before, fault_in}
use Rattle.debug_records.specs.Fields.{Field, Said, said_by}
use Rattle.debug_records.specs.Info.{Info, no_info, record_at, spanned, with_new}
use Rattle.debug_records.specs.Numbers.{numbers_in, placed_in, placed_or_none}
use Rattle.debug_records.specs.Records.{CSymbol, Scope, c_symbol_of, file_of, line_of, scope_of, segment_of, span_of, storage_in, symbol_of}
use Rattle.debug_records.specs.declared.fault.DebugFault.{DebugFault}
use Rattle.debug_records.specs.declared.fault.DebugFaultKind.{DebugFaultKind}
use Rattle.debug_records.specs.declared.fault.DebugFaultKind.TheVariants.{LongSpans, NoRecord, NoVersion, OtherVersion, TooLarge, TooMany}
use Rattle.debug_records.specs.declared.fault.LineFault.{LineFault}
use Rattle.debug_records.specs.declared.fault.Place.{Place}
use Rattle.debug_records.specs.declared.info.Use.{Use}
use Rattle.debug_records.specs.declared.numbers.Placed.{Placed}
use Rattle.debug_records.specs.declared.record.Storage.{Storage}
use Rattle.debug_records.specs.declared.reference.Reference.{Reference}
use Rattle.debug_records.specs.declared.reference.Target.{Target}
use Rattle.debug_records.specs.declared.reference.Target.TheVariants as target

-- What was read so far: whether there was a version, the records, and the references among them.
pub record Reading : Type 0 where
  pub is_versioned : Bool
  pub info : Info
  pub references : List Reference

abbrev pub nothing_read : Reading
nothing_read = record { is_versioned = false; info = no_info; references = [] }

abbrev pub Read : Type 0
Read = Result Reading LineFault

-- ---- references, by the place of the line that has them

abbrev pub reference_of : Place → Target → Placed → Reference
reference_of place target id = record {
  target = target;
  id = id.number;
  line = place.line;
  column = column_of place.length id.left;
}

abbrev pub with_reference : Place → Target → Placed → Reading → Reading
with_reference place target id r
    = record r { references = r.references ++ reference_of place target id ∷ [] }

abbrev pub with_reference_if : Place → Target → Option Placed → Reading → Reading
with_reference_if place target None r = r
with_reference_if place target (Some id) r = with_reference place target id r

-- ---- records: 4,096 files, and 262,144 of each other word

abbrev pub most_files : ℕ
most_files = 4096

abbrev pub most_records : ℕ
most_records = 262144

unfoldable pub with_file : List Field → Reading → Read
with_file fields r =
    placed_in fields (codes "id") >>= λ id.
    file_of fields >>= λ file.
    with_new most_files r.info.files id file >>= λ files.
    Ok (record r { info = record r.info { files = files } })

unfoldable pub with_segment : List Field → Reading → Read
with_segment fields r =
    placed_in fields (codes "id") >>= λ id.
    segment_of fields >>= λ segment.
    with_new most_records r.info.segments id segment >>= λ segments.
    Ok (record r { info = record r.info { segments = segments } })

unfoldable pub with_symbol : List Field → Reading → Read
with_symbol fields r =
    placed_in fields (codes "id") >>= λ id.
    symbol_of fields >>= λ symbol.
    with_new most_records r.info.symbols id symbol >>= λ symbols.
    Ok (record r { info = record r.info { symbols = symbols } })

unfoldable pub with_span : Place → List Field → Reading → Read
with_span place fields r =
    placed_in fields (codes "id") >>= λ id.
    placed_in fields (codes "seg") >>= λ segment.
    span_of segment.number fields >>= λ span.
    with_new most_records r.info.spans id span >>= λ spans.
    Ok (with_reference place target.Segment segment
    (record r { info = record r.info { spans = spans } }))

unfoldable pub with_module : Place → List Field → Reading → Read
with_module place fields r =
    placed_in fields (codes "id") >>= λ id.
    placed_in fields (codes "file") >>= λ file.
    with_new most_records r.info.modules id file.number >>= λ modules.
    Ok (with_reference place target.File file
    (record r { info = record r.info { modules = modules } }))

-- The spans of a line; 262,144 of all lines.
abbrev pub use_of : ℕ → Placed → Use
use_of line span = record { line = line; span = span.number }

unfoldable pub with_uses : Place → Placed → List Placed → Reading → Read
with_uses place id spans r = if nat_lt most_records (length r.info.uses + length spans)
    then Err (fault_before TooMany id.left)
    else Ok (record r {
      info = record r.info { uses = r.info.uses ++ map (use_of id.number) spans };
      references = r.references ++ map (reference_of place target.Span) spans;
    })

unfoldable pub with_line : Place → List Field → Reading → Read
with_line place fields r =
    placed_in fields (codes "id") >>= λ id.
    placed_in fields (codes "file") >>= λ file.
    line_of file.number fields >>= λ line.
    numbers_in fields (codes "span") >>= λ spans.
    with_new most_records r.info.lines id line >>= λ lines.
    with_uses place id spans (with_reference place target.File file
    (record r { info = record r.info { lines = lines } }))

abbrev pub number_of_place : Option Placed → Option ℕ
number_of_place placed = option_map (λ p. p.number) placed

unfoldable pub with_new_scope : Placed → Scope → Reading → Read
with_new_scope id scope r =
    with_new most_records r.info.scopes id scope >>= λ scopes.
    Ok (record r { info = record r.info { scopes = scopes } })

unfoldable pub with_scope : Place → List Field → Reading → Read
with_scope place fields r =
    placed_in fields (codes "id") >>= λ id.
    placed_or_none fields (codes "sym") >>= λ symbol.
    scope_of (number_of_place symbol) fields >>= λ scope.
    with_new_scope id scope r >>= λ more.
    Ok (with_reference_if place target.Symbol symbol more)

unfoldable pub with_new_c_symbol : Placed → CSymbol → Reading → Read
with_new_c_symbol id name r =
    with_new most_records r.info.c_symbols id name >>= λ names.
    Ok (record r { info = record r.info { c_symbols = names } })

unfoldable pub with_stored : Place → List Field → Storage → Reading → Read
with_stored place fields storage r =
    placed_in fields (codes "id") >>= λ id.
    placed_in fields (codes "scope") >>= λ scope.
    placed_or_none fields (codes "sym") >>= λ symbol.
    c_symbol_of storage scope.number (number_of_place symbol) fields >>= λ name.
    with_new_c_symbol id name r >>= λ more.
    Ok (with_reference_if place target.Symbol symbol
    (with_reference place target.Scope scope more))

-- Where a name of C is kept may be a word that is not known, since a minor version may add one. The
-- record says nothing then.
abbrev pub with_stored_if : Place → List Field → Option Storage → Reading → Read
with_stored_if place fields None r = Ok r
with_stored_if place fields (Some storage) r = with_stored place fields storage r

unfoldable pub with_c_symbol : Place → List Field → Reading → Read
with_c_symbol place fields r =
    storage_in fields >>= λ storage. with_stored_if place fields storage r

-- The major version is 2.
abbrev pub with_major : Placed → Reading → Read
with_major major r = if major.number == 2 then Ok (record r { is_versioned = true })
    else Err (fault_before OtherVersion major.left)

unfoldable pub with_version : List Field → Reading → Read
with_version fields r = placed_in fields (codes "major") >>= λ major. with_major major r

-- ---- lines

unfoldable pub with_record : Place → Said → Reading → Read
with_record place said r =
    if bytes_eq said.word (codes "line") then with_line place said.fields r
    else if bytes_eq said.word (codes "span") then with_span place said.fields r
    else if bytes_eq said.word (codes "file") then with_file said.fields r
    else if bytes_eq said.word (codes "seg") then with_segment said.fields r
    else if bytes_eq said.word (codes "sym") then with_symbol said.fields r
    else if bytes_eq said.word (codes "mod") then with_module place said.fields r
    else if bytes_eq said.word (codes "scope") then with_scope place said.fields r
    else if bytes_eq said.word (codes "csym") then with_c_symbol place said.fields r
    else Ok r

unfoldable pub with_said : Place → Said → Reading → Read
with_said place said r =
    if bytes_eq said.word (codes "version") then with_version said.fields r
    else if r.is_versioned then with_record place said r
    else Err (fault_before NoVersion place.length)

abbrev pub place_of : ℕ → List ℕ → Place
place_of number line = record { line = number; length = length line }

-- An empty line says nothing.
unfoldable pub with_text : ℕ → List ℕ → Reading → Read
with_text number line r = if length line == 0 then Ok r
    else said_by line >>= λ said. with_said (place_of number line) said r

-- ---- a file

abbrev pub in_line : {A : Type 0} → Place → Result A LineFault → Result A DebugFault
in_line place (Ok x) = Ok x
in_line place (Err fault) = Err (fault_in place fault)

unfoldable pub lines_read : ℕ → List (List ℕ) → Reading → Result Reading DebugFault
lines_read number [] r = Ok r
lines_read number (line ∷ lines) r
    = in_line (place_of number line) (with_text number line r) >>= lines_read (number + 1) lines

abbrev pub is_there_by : Info → Target → ℕ → Bool
is_there_by info target.File id = is_some (record_at info.files id)
is_there_by info target.Segment id = is_some (record_at info.segments id)
is_there_by info target.Span id = is_some (record_at info.spans id)
is_there_by info target.Symbol id = is_some (record_at info.symbols id)
is_there_by info target.Scope id = is_some (record_at info.scopes id)

abbrev pub is_there : Info → Reference → Bool
is_there info reference = is_there_by info reference.target reference.id

-- The first reference to a record that is not there.
abbrev pub first_missing : Info → List Reference → Option Reference
first_missing info [] = None
first_missing info (reference ∷ references) = if is_there info reference
    then first_missing info references else Some reference

abbrev pub at_start : {A : Type 0} → DebugFaultKind → Result A DebugFault
at_start kind = Err (record { line = 1; column = 1; kind = kind })

-- The spans of all lines have 16,777,216 bytes at most, which is 256 times what a 6502 addresses.
abbrev pub most_spanned : ℕ
most_spanned = 16777216

abbrev pub without_missing : Info → Option Reference → Result Info DebugFault
without_missing info None = if nat_lt most_spanned (spanned info) then at_start LongSpans
    else Ok info
without_missing info (Some reference) = Err (record {
  line = reference.line;
  column = reference.column;
  kind = NoRecord;
})

unfoldable pub finished : Reading → Result Info DebugFault
finished r = if r.is_versioned then without_missing r.info (first_missing r.info r.references)
    else at_start NoVersion

-- A file has 16 MiB at most.
unfoldable pub debug_info : List ℕ → Result Info DebugFault
debug_info text = if nat_lt (2 ^ 24) (length text) then at_start TooLarge
    else lines_read 1 (lines_of text) nothing_read >>= finished
