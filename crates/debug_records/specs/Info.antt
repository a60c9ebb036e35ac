-- What a debug file says: tables of records by their numbers, and which spans each line has.
-- Sources: those of Fields.antt.
use Rattle.std.specs.Prelude.{ℕ, ◌+◌, ◌-◌, ◌==◌, nat_le, nat_lt, Bool, false, is_some, if◌then◌else◌, List, [], ◌++◌, length, get_or, set, replicate, Option, Some, None, Result, Ok, Err}
use Rattle.std.specs.List.{count_by, sum_by}
use Rattle.debug_records.specs.Faults.{fault_before}
use Rattle.debug_records.specs.Records.{CSymbol, File, Scope, Segment, Symbol}
use Rattle.debug_records.specs.declared.fault.DebugFaultKind.TheVariants.{IdTwice, TooMany}
use Rattle.debug_records.specs.declared.fault.LineFault.{LineFault}
use Rattle.debug_records.specs.declared.info.Use.{Use}
use Rattle.debug_records.specs.declared.numbers.Placed.{Placed}
use Rattle.debug_records.specs.declared.record.Line.{Line}
use Rattle.debug_records.specs.declared.record.Span.{Span}

-- ---- a table: at each number the record that has it

abbrev pub Table : Type 0 → Type 0
Table A = List (Option A)

abbrev pub record_at : {A : Type 0} → Table A → ℕ → Option A
record_at table number = get_or table number None

-- A table with places for so many records at least.
abbrev pub grown : {A : Type 0} → Table A → ℕ → Table A
grown table count = table ++ replicate (count - length table) None

abbrev pub put_at : {A : Type 0} → Table A → ℕ → A → Table A
put_at table number item = set (grown table (number + 1)) number (Some item)

-- A record more, whose number is below the limit, and is no other record's.
unfoldable pub with_new : {A : Type 0} → ℕ → Table A → Placed → A → Result (Table A) LineFault
with_new most table id item = if nat_le most id.number then Err (fault_before TooMany id.left)
    else if is_some (record_at table id.number) then Err (fault_before IdTwice id.left)
    else Ok (put_at table id.number item)

-- ---- the whole

-- `uses` has a line and a span of it for each span of each line, in the order of the file. A module
-- is the number of its main file.
pub record Info : Type 0 where
  pub files : Table File
  pub segments : Table Segment
  pub symbols : Table Symbol
  pub spans : Table Span
  pub lines : Table Line
  pub modules : Table ℕ
  pub scopes : Table Scope
  pub c_symbols : Table CSymbol
  pub uses : List Use

abbrev pub no_info : Info
no_info = record {
  files = [];
  segments = [];
  symbols = [];
  spans = [];
  lines = [];
  modules = [];
  scopes = [];
  c_symbols = [];
  uses = [];
}

-- ---- how many bytes lines have

abbrev pub size_of_span : Option Span → ℕ
size_of_span None = 0
size_of_span (Some span) = span.size

abbrev pub use_size : Info → Use → ℕ
use_size info used = size_of_span (record_at info.spans used.span)

-- A span that two lines have counts twice.
abbrev pub spanned : Info → ℕ
spanned info = sum_by (use_size info) info.uses

-- ---- files that are not told apart

abbrev pub is_main_of : ℕ → Option ℕ → Bool
is_main_of file None = false
is_main_of file (Some main) = main == file

-- Two files of one name, size and time are one record: it is the main file of two modules, and whose
-- lines are meant is not known.
abbrev pub is_ambiguous : Info → ℕ → Bool
is_ambiguous info file = nat_lt 1 (count_by (is_main_of file) info.modules)
