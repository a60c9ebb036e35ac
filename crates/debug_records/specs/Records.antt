-- What a record of a debug file says, by its fields. Other words and other fields say nothing here: a
-- minor version may add them. Names of a record are looked for in the order in which they stand
-- here. Sources: those of Fields.antt; mos65 for the faults.
use Rattle.std.specs.Prelude.{ℕ, ℤ, ◌==◌, Bool, false, is_some, if◌then◌else◌, List, codes, Option, Some, None, Result, Ok, Err}
use Rattle.std.specs.Str.{bytes_eq}
use Rattle.debug_records.specs.Faults.{◌>>=◌, fault_before}
use Rattle.debug_records.specs.Fields.{Field, field_in}
use Rattle.debug_records.specs.Numbers.{number_in, number_or, number_value, required, signed_or_zero, text_in, text_value}
use Rattle.debug_records.specs.declared.fault.DebugFaultKind.TheVariants.{NoKind}
use Rattle.debug_records.specs.declared.fault.LineFault.{LineFault}
use Rattle.debug_records.specs.declared.record.Line.{Line}
use Rattle.debug_records.specs.declared.record.LineKind.{LineKind}
use Rattle.debug_records.specs.declared.record.LineKind.TheVariants.{Assembler, C, Macro, Parameter}
use Rattle.debug_records.specs.declared.record.Span.{Span}
use Rattle.debug_records.specs.declared.record.Storage.{Storage}
use Rattle.debug_records.specs.declared.record.Storage.TheVariants.{Auto, Register, Static, External}

-- ---- `file`: a source, with its size when it was assembled, as far as that is told; a debug file has
-- its time too

pub record File : Type 0 where
  pub name : List ℕ
  pub size : Option ℕ

unfoldable pub file_of : List Field → Result File LineFault
file_of fields =
    text_in fields (codes "name") >>= λ name.
    number_in fields (codes "size") >>= λ size.
    number_in fields (codes "mtime") >>= λ modified.
    Ok (record { name = name; size = Some size })

-- ---- `seg`: a segment, its name, where it runs, whether it is read only, and where its bytes are in a
-- file that the linker wrote

pub record Output : Type 0 where
  pub name : List ℕ
  pub offset : ℕ

pub record Segment : Type 0 where
  pub name : List ℕ
  pub start : ℕ
  pub size : ℕ
  pub is_read_only : Bool
  pub output : Option Output

abbrev pub output_by : List Field → Option Field → Result (Option Output) LineFault
output_by fields None = Ok None
output_by fields (Some field) =
    text_value field >>= λ name.
    number_in fields (codes "ooffs") >>= λ offset.
    Ok (Some (record { name = name; offset = offset }))

-- A field has this word.
abbrev pub is_word : List ℕ → Option Field → Bool
is_word word None = false
is_word word (Some field) = bytes_eq field.value word

unfoldable pub segment_of : List Field → Result Segment LineFault
segment_of fields =
    text_in fields (codes "name") >>= λ name.
    number_in fields (codes "start") >>= λ start.
    number_in fields (codes "size") >>= λ size.
    output_by fields (field_in fields (codes "oname")) >>= λ output.
    Ok (record {
      name = name;
      start = start;
      size = size;
      is_read_only = is_word (codes "ro") (field_in fields (codes "type"));
      output = output;
    })

-- ---- `sym`: a name, its value if its module defines it, and whether it is a label

pub record Symbol : Type 0 where
  pub name : List ℕ
  pub value : Option ℕ
  pub is_label : Bool

abbrev pub value_by : Option Field → Result (Option ℕ) LineFault
value_by None = Ok None
value_by (Some field) = number_value field >>= λ value. Ok (Some value)

unfoldable pub symbol_of : List Field → Result Symbol LineFault
symbol_of fields =
    text_in fields (codes "name") >>= λ name.
    value_by (field_in fields (codes "val")) >>= λ value.
    Ok (record {
      name = name;
      value = value;
      is_label = is_word (codes "lab") (field_in fields (codes "type"));
    })

-- ---- `span`: bytes of a segment; they are data if they have a type

unfoldable pub span_of : ℕ → List Field → Result Span LineFault
span_of segment fields =
    number_in fields (codes "start") >>= λ start.
    number_in fields (codes "size") >>= λ size.
    Ok (record {
      segment = segment;
      start = start;
      size = size;
      is_data = is_some (field_in fields (codes "type"));
    })

-- ---- `line`: a line of a file; `count` says how deep in macros and loops it stands

abbrev pub kind_of : ℕ → Option LineKind
kind_of number =
    if number == 0 then Some Assembler
    else if number == 1 then Some C
    else if number == 2 then Some Macro
    else if number == 3 then Some Parameter
    else None

abbrev pub kind_or_fault : ℕ → Option LineKind → Result LineKind LineFault
kind_or_fault left None = Err (fault_before NoKind left)
kind_or_fault left (Some kind) = Ok kind

abbrev pub kind_by : Option Field → Result LineKind LineFault
kind_by None = Ok Assembler
kind_by (Some field) = number_value field >>= λ number. kind_or_fault field.left (kind_of number)

unfoldable pub line_of : ℕ → List Field → Result Line LineFault
line_of file fields =
    number_in fields (codes "line") >>= λ line.
    kind_by (field_in fields (codes "type")) >>= λ kind.
    number_or fields (codes "count") 0 >>= λ depth.
    Ok (record { file = file; line = line; kind = kind; depth = depth })

-- ---- `scope`: its name, and its size and the number of its symbol, where it has these

pub record Scope : Type 0 where
  pub name : List ℕ
  pub size : Option ℕ
  pub symbol : Option ℕ

unfoldable pub scope_of : Option ℕ → List Field → Result Scope LineFault
scope_of symbol fields =
    text_in fields (codes "name") >>= λ name.
    value_by (field_in fields (codes "size")) >>= λ size.
    Ok (record { name = name; size = size; symbol = symbol })

-- ---- `csym`: a name of C, the number of its scope, where it is kept, at which offset, and the number
-- of its symbol, if it has one

pub record CSymbol : Type 0 where
  pub name : List ℕ
  pub scope : ℕ
  pub storage : Storage
  pub offset : ℤ
  pub symbol : Option ℕ

abbrev pub storage_of : List ℕ → Option Storage
storage_of word =
    if bytes_eq word (codes "auto") then Some Auto
    else if bytes_eq word (codes "reg") then Some Register
    else if bytes_eq word (codes "static") then Some Static
    else if bytes_eq word (codes "ext") then Some External
    else None

-- Where a name is kept, if the word for it is known.
abbrev pub storage_in : List Field → Result (Option Storage) LineFault
storage_in fields
    = required (field_in fields (codes "sc")) >>= λ field. Ok (storage_of field.value)

unfoldable pub c_symbol_of : Storage → ℕ → Option ℕ → List Field → Result CSymbol LineFault
c_symbol_of storage scope symbol fields =
    text_in fields (codes "name") >>= λ name.
    signed_or_zero fields (codes "offs") >>= λ offset.
    Ok (record {
      name = name;
      scope = scope;
      storage = storage;
      offset = offset;
      symbol = symbol;
    })
