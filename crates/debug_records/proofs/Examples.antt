-- Short debug files, and the rows of three addresses of files that ld65 wrote. Each is computed.
use Rattle.std.proofs.Common.{◌≡◌, ℕ, List, [], ◌∷◌, ◌++◌, codes, pos, negsuc, Some, None, Option, Result, Ok, Err, false, true, refl}
use Rattle.model.specs.TextLines.{lines_from}
use Rattle.debug_records.specs.Fields.{field_of, field_with, fields_within, next_field, said_by}
use Rattle.debug_records.specs.Info.{Info, no_info, with_new}
use Rattle.debug_records.specs.Numbers.{next_number, number_of, numbers_within}
use Rattle.debug_records.specs.Reading.{debug_info, finished, lines_read, with_c_symbol, with_file, with_line, with_module, with_new_c_symbol, with_new_scope, with_record, with_said, with_scope, with_segment, with_span, with_stored, with_symbol, with_text, with_uses, with_version}
use Rattle.debug_records.specs.Records.{CSymbol, Scope, Segment, Symbol, c_symbol_of, file_of, line_of, scope_of, segment_of, span_of, symbol_of}
use Rattle.debug_records.specs.Rows.{begun_at, clear_rows, row_of, rows_at, rows_of, shown_at}
use Rattle.debug_records.specs.declared.fault.DebugFault.{DebugFault}
use Rattle.debug_records.specs.declared.fault.DebugFaultKind.{DebugFaultKind}
use Rattle.debug_records.specs.declared.fault.DebugFaultKind.TheVariants as fault
use Rattle.debug_records.specs.declared.record.LineKind.{LineKind}
use Rattle.debug_records.specs.declared.record.LineKind.TheVariants as kind
use Rattle.debug_records.specs.declared.record.Storage.TheVariants.{Auto, External}
use Rattle.debug_records.specs.declared.row.Row.{Row}

abbrev version : List ℕ
version = codes "version\tmajor=2,minor=0\n"

abbrev fault_in_file : ℕ → ℕ → DebugFaultKind → Result Info DebugFault
fault_in_file line column kind = Err (record { line = line; column = column; kind = kind })

-- ---- faults

pub nothing : debug_info [] ≡ fault_in_file 1 1 fault.NoVersion
unfolding debug_info lines_read lines_from finished
nothing = refl

pub other_version : debug_info (codes "version\tmajor=3,minor=0\n") ≡ fault_in_file 1 15 fault.OtherVersion
unfolding debug_info lines_read lines_from with_text said_by fields_within next_field field_of field_with number_of with_said with_version finished
other_version = refl

-- counts are skipped
pub counts : debug_info (version ++ codes "info\tfile=522,span=9\n") ≡ Ok no_info
unfolding debug_info lines_read lines_from with_text said_by fields_within next_field field_of field_with number_of with_said with_version with_record finished
counts = refl

pub no_segment : debug_info (version ++ codes "span\tid=0,seg=3,start=0,size=1\n") ≡ fault_in_file 2 15 fault.NoRecord
unfolding debug_info lines_read lines_from with_text said_by fields_within next_field field_of field_with number_of with_said with_version with_record
    with_span span_of with_new finished
no_segment = refl

abbrev two_segments : List ℕ
two_segments = version ++ codes "seg\tid=0,name=" ++ 34 ∷ codes "A" ++ 34 ∷ codes ",start=0x0,size=1\r\nseg\tid=0,name="
    ++ 34 ∷ codes "B" ++ 34 ∷ codes ",start=1,size=1\n"

pub twice : debug_info two_segments ≡ fault_in_file 3 8 fault.IdTwice
unfolding debug_info lines_read lines_from with_text said_by fields_within next_field field_of field_with number_of with_said with_version with_record
    with_segment segment_of with_new finished
twice = refl

pub open_quote : debug_info (version ++ codes "file\tid=0,name=" ++ 34 ∷ codes "a,b\n") ≡ fault_in_file 2 16 fault.OpenText
unfolding debug_info lines_read lines_from with_text said_by fields_within next_field field_of field_with number_of with_said with_version finished
open_quote = refl

-- ---- two spans of a line of C, a `while` at its condition and at its jump

abbrev rows_in : Result Info DebugFault → List Row
rows_in (Ok info) = rows_of info
rows_in (Err fault) = []

abbrev row : ℕ → ℕ → LineKind → ℕ → ℕ → ℕ → Row
row file line kind depth start end = record {
  file = file;
  line = line;
  kind = kind;
  depth = depth;
  start = start;
  end = end;
  has_code = true;
  is_data = false;
}

abbrev while_line : List ℕ
while_line = version
    ++ codes "line\tid=0,file=0,line=8,type=1,span=1+0\nspan\tid=0,seg=0,start=325,size=3\nspan\tid=1,seg=0,start=376,size=13\nseg\tid=0,name="
    ++ 34 ∷ codes "CODE" ++ 34 ∷ codes ",start=0x008019,size=0x055E,type=ro\nfile\tid=0,name=" ++ 34 ∷ codes "bank.c" ++ 34 ∷ codes ",size=9,mtime=0x10\n"

pub two_spans : rows_in (debug_info while_line) ≡ row 0 8 kind.C 0 0x8191 0x819E ∷ row 0 8 kind.C 0 0x815E 0x8161 ∷ []
unfolding debug_info lines_read lines_from with_text said_by fields_within next_field field_of field_with number_of next_number numbers_within
    with_said with_version with_record with_file file_of with_segment segment_of with_span span_of with_line line_of with_uses with_new finished row_of
two_spans = refl

-- ---- a label, and a name that another module defines

abbrev symbols_in : Result Info DebugFault → List (Option Symbol)
symbols_in (Ok info) = info.symbols
symbols_in (Err fault) = []

abbrev symbol_lines : List ℕ
symbol_lines = version ++ codes "sym\tid=1,name=" ++ 34 ∷ codes "sp" ++ 34 ∷ codes ",type=imp\nsym\tid=0,name="
    ++ 34 ∷ codes "_main" ++ 34 ∷ codes ",val=0x8046,type=lab\n"

pub two_symbols : symbols_in (debug_info symbol_lines) ≡ Some (record { name = codes "_main"; value = Some 0x8046; is_label = true })
    ∷ Some (record { name = codes "sp"; value = None; is_label = false }) ∷ []
unfolding debug_info lines_read lines_from with_text said_by fields_within next_field field_of field_with number_of with_said with_version with_record
    with_symbol symbol_of with_new finished
two_symbols = refl

-- ---- a macro in a macro: the line that the author wrote is shown

abbrev called : Row
called = row 0 20 kind.Assembler 0 0xE025 0xE02F

abbrev body : Row
body = row 1 8 kind.Macro 1 0xE025 0xE02A

abbrev inner : Row
inner = row 1 3 kind.Macro 2 0xE025 0xE027

abbrev behind : Row
behind = row 1 4 kind.Macro 2 0xE027 0xE02A

abbrev rows : List Row
rows = body ∷ called ∷ behind ∷ inner ∷ []

pub at_first : rows_at rows 0xE025 ≡ body ∷ called ∷ inner ∷ []
at_first = refl

pub shown_first : shown_at rows 0xE027 ≡ Some called
shown_first = refl

pub begun_first : begun_at rows 0xE025 ≡ Some inner
begun_first = refl

-- ---- a statement of C stands over its lines of assembler

abbrev statement : Row
statement = row 3 33 kind.C 0 0x80A3 0x80B3

pub shown_statement : shown_at (row 1 243 kind.Assembler 0 0x80AD 0x80B0 ∷ statement ∷ []) 0x80AD ≡ Some statement
shown_statement = refl

-- ---- two banks, which run at one address: no row of theirs is shown

abbrev bank : Segment
bank = record { name = codes "BANK"; start = 0x8000; size = 0x100; is_read_only = true; output = None }

pub in_banks : clear_rows (record no_info { segments = Some bank ∷ Some bank ∷ [] }) (row 0 1 kind.Assembler 0 0x8000 0x8002 ∷ []) ≡ []
in_banks = refl

pub in_one_bank : clear_rows (record no_info { segments = Some bank ∷ None ∷ [] }) (behind ∷ called ∷ []) ≡ behind ∷ called ∷ []
in_one_bank = refl

-- ---- BSS over code that is run once: the row of the code alone is shown

abbrev bss : Segment
bss = record { name = codes "BSS"; start = 0x8000; size = 0x100; is_read_only = false; output = None }

abbrev variable : Row
variable = record (row 0 2 kind.Assembler 0 0x8000 0x8001) { has_code = false; is_data = true }

pub over_code : clear_rows (record no_info { segments = Some bank ∷ Some bss ∷ [] }) (behind ∷ variable ∷ called ∷ []) ≡ behind ∷ called ∷ []
over_code = refl

pub in_bss : clear_rows (record no_info { segments = Some bss ∷ [] }) (variable ∷ []) ≡ variable ∷ []
in_bss = refl

-- ---- a function of C with its local, as cc65 wrote it

abbrev names_in : Result Info DebugFault → List (Option CSymbol)
names_in (Ok info) = info.c_symbols
names_in (Err fault) = []

abbrev scopes_in : Result Info DebugFault → List (Option Scope)
scopes_in (Ok info) = info.scopes
scopes_in (Err fault) = []

abbrev function_lines : List ℕ
function_lines = version ++ codes "csym\tid=0,name=" ++ 34 ∷ codes "sum_of" ++ 34 ∷ codes ",scope=0,type=1,sc=ext,sym=0\ncsym\tid=1,name="
    ++ 34 ∷ codes "rest" ++ 34 ∷ codes ",scope=0,type=1,sc=auto,offs=-2\nscope\tid=0,name="
    ++ 34 ∷ codes "_sum_of" ++ 34 ∷ codes ",mod=0,type=scope,size=60,sym=0\nsym\tid=0,name="
    ++ 34 ∷ codes "_sum_of" ++ 34 ∷ codes ",val=0x81AF,type=lab\n"

pub two_names : names_in (debug_info function_lines)
    ≡ Some (record { name = codes "sum_of"; scope = 0; storage = External; offset = pos 0; symbol = Some 0 })
    ∷ Some (record { name = codes "rest"; scope = 0; storage = Auto; offset = negsuc 1; symbol = None }) ∷ []
unfolding debug_info lines_read lines_from with_text said_by fields_within next_field field_of field_with number_of with_said with_version with_record
    with_symbol symbol_of with_scope scope_of with_new_scope with_c_symbol with_stored c_symbol_of with_new_c_symbol with_new finished
two_names = refl

pub one_scope : scopes_in (debug_info function_lines) ≡ Some (record { name = codes "_sum_of"; size = Some 60; symbol = Some 0 }) ∷ []
unfolding debug_info lines_read lines_from with_text said_by fields_within next_field field_of field_with number_of with_said with_version with_record
    with_symbol symbol_of with_scope scope_of with_new_scope with_c_symbol with_stored c_symbol_of with_new_c_symbol with_new finished
one_scope = refl

pub no_scope : debug_info (version ++ codes "csym\tid=0,name=" ++ 34 ∷ codes "a" ++ 34 ∷ codes ",scope=3,type=1,sc=auto\n") ≡ fault_in_file 2 26 fault.NoRecord
unfolding debug_info lines_read lines_from with_text said_by fields_within next_field field_of field_with number_of with_said with_version with_record
    with_c_symbol with_stored c_symbol_of with_new_c_symbol with_new finished
no_scope = refl

-- another way to keep a name is skipped
pub other_storage : debug_info (version ++ codes "csym\tid=0,sc=bank\n") ≡ Ok no_info
unfolding debug_info lines_read lines_from with_text said_by fields_within next_field field_of field_with number_of with_said with_version with_record
    with_c_symbol finished
other_storage = refl
