-- A record that was taken, or refused.
use Rattle.std.proofs.Common.{◌≡◌, List, ap, codes, map, refl, Result, Ok, Err}
use Rattle.std.specs.Option.{option_map}
use Rattle.debug_records.specs.Faults.{◌>>=◌, Gives}
use Rattle.debug_records.specs.Fields.{Field}
use Rattle.debug_records.specs.Info.{Table, with_new}
use Rattle.debug_records.specs.Numbers.{placed_in}
use Rattle.debug_records.specs.Reading.{Reading, most_files, most_records, with_file, with_new_c_symbol, with_new_scope, with_segment, with_symbol}
use Rattle.debug_records.specs.Records.{File, Segment, Symbol, file_of, segment_of, symbol_of}
use Rattle.debug_records.specs.Views.{c_symbol_view, file_view, scope_view, segment_view, symbol_view}
use Rattle.debug_records.specs.declared.fault.LineError.{LineError}
use Rattle.debug_records.specs.declared.fault.LineFault.{LineFault}
use Rattle.debug_records.specs.declared.numbers.Placed.{Placed}
use Rattle.debug_records.specs.declared.record.CSymbol.{CSymbol as HeldCSymbol}
use Rattle.debug_records.specs.declared.record.File.{File as HeldFile}
use Rattle.debug_records.specs.declared.record.Scope.{Scope as HeldScope}
use Rattle.debug_records.specs.declared.record.Segment.{Segment as HeldSegment}
use Rattle.debug_records.specs.declared.record.Symbol.{Symbol as HeldSymbol}
use Rattle.debug_records.proofs.Passing.{passed_on}
use Rattle.debug_records.proofs.Tables.{new_put, new_refused}

-- ---- files

file_pushed : (fields : List Field) (r : Reading) (id : Placed) (file : File) (files : Table File) → placed_in fields (codes "id") ≡ Ok id
    → file_of fields ≡ Ok file
    → with_new most_files r.info.files id file ≡ Ok files → with_file fields r ≡ Ok (record r { info = record r.info { files = files } })
unfolding with_file
file_pushed fields r id file files h k p = rw h (rw k (rw p refl))

file_refused : (fields : List Field) (r : Reading) (id : Placed) (file : File) (fault : LineFault) → placed_in fields (codes "id") ≡ Ok id
    → file_of fields ≡ Ok file
    → with_new most_files r.info.files id file ≡ Err fault → with_file fields r ≡ Err fault
unfolding with_file
file_refused fields r id file fault h k p = rw h (rw k (rw p refl))

-- what a table gives, the whole gives
pub file_given : {A : Type 0} (result : Result A LineError) (fields : List Field) (r : Reading) (table new : Table HeldFile) (id : Placed) (file : HeldFile)
    → map (option_map file_view) table ≡ r.info.files → placed_in fields (codes "id") ≡ Ok id → file_of fields ≡ Ok (file_view file)
    → Gives (λ (x : A). new) result (with_new most_files table id file)
    → Gives (λ (x : A). record r { info = record r.info { files = map (option_map file_view) new } }) result (with_file fields r)
file_given (Ok x) fields r table new id file same h k given =
    let put : with_new most_files r.info.files id (file_view file) ≡ Ok (map (option_map file_view) new) =
    rw (← same) (new_put file_view most_files table new id file given) in
    file_pushed fields r id (file_view file) (map (option_map file_view) new) h k put
file_given (Err why) fields r table new id file same h k given =
    passed_on why (with_new most_files table id file) (with_file fields r)
    (λ (fault : LineFault) (refused : with_new most_files table id file ≡ Err fault).
    let whole : with_new most_files r.info.files id (file_view file) ≡ Err fault =
    rw (← same) (new_refused file_view most_files table id file fault refused) in
    file_refused fields r id (file_view file) fault h k whole)
    given

-- ---- segments

segment_pushed : (fields : List Field) (r : Reading) (id : Placed) (segment : Segment) (segments : Table Segment)
    → placed_in fields (codes "id") ≡ Ok id → segment_of fields ≡ Ok segment
    → with_new most_records r.info.segments id segment ≡ Ok segments → with_segment fields r ≡ Ok (record r { info = record r.info { segments = segments } })
unfolding with_segment
segment_pushed fields r id segment segments h k p = rw h (rw k (rw p refl))

segment_refused : (fields : List Field) (r : Reading) (id : Placed) (segment : Segment) (fault : LineFault) → placed_in fields (codes "id") ≡ Ok id
    → segment_of fields ≡ Ok segment
    → with_new most_records r.info.segments id segment ≡ Err fault → with_segment fields r ≡ Err fault
unfolding with_segment
segment_refused fields r id segment fault h k p = rw h (rw k (rw p refl))

pub segment_given : {A : Type 0} (result : Result A LineError) (fields : List Field) (r : Reading) (table new : Table HeldSegment) (id : Placed)
    (segment : HeldSegment)
    → map (option_map segment_view) table ≡ r.info.segments → placed_in fields (codes "id") ≡ Ok id → segment_of fields ≡ Ok (segment_view segment)
    → Gives (λ (x : A). new) result (with_new most_records table id segment)
    → Gives (λ (x : A). record r { info = record r.info { segments = map (option_map segment_view) new } }) result (with_segment fields r)
segment_given (Ok x) fields r table new id segment same h k given =
    let put : with_new most_records r.info.segments id (segment_view segment) ≡ Ok (map (option_map segment_view) new) =
    rw (← same) (new_put segment_view most_records table new id segment given) in
    segment_pushed fields r id (segment_view segment) (map (option_map segment_view) new) h k put
segment_given (Err why) fields r table new id segment same h k given =
    passed_on why (with_new most_records table id segment) (with_segment fields r)
    (λ (fault : LineFault) (refused : with_new most_records table id segment ≡ Err fault).
    let whole : with_new most_records r.info.segments id (segment_view segment) ≡ Err fault =
    rw (← same) (new_refused segment_view most_records table id segment fault refused) in
    segment_refused fields r id (segment_view segment) fault h k whole)
    given

-- ---- symbols

symbol_pushed : (fields : List Field) (r : Reading) (id : Placed) (symbol : Symbol) (symbols : Table Symbol)
    → placed_in fields (codes "id") ≡ Ok id → symbol_of fields ≡ Ok symbol
    → with_new most_records r.info.symbols id symbol ≡ Ok symbols → with_symbol fields r ≡ Ok (record r { info = record r.info { symbols = symbols } })
unfolding with_symbol
symbol_pushed fields r id symbol symbols h k p = rw h (rw k (rw p refl))

symbol_refused : (fields : List Field) (r : Reading) (id : Placed) (symbol : Symbol) (fault : LineFault) → placed_in fields (codes "id") ≡ Ok id
    → symbol_of fields ≡ Ok symbol
    → with_new most_records r.info.symbols id symbol ≡ Err fault → with_symbol fields r ≡ Err fault
unfolding with_symbol
symbol_refused fields r id symbol fault h k p = rw h (rw k (rw p refl))

pub symbol_given : {A : Type 0} (result : Result A LineError) (fields : List Field) (r : Reading) (table new : Table HeldSymbol) (id : Placed)
    (symbol : HeldSymbol)
    → map (option_map symbol_view) table ≡ r.info.symbols → placed_in fields (codes "id") ≡ Ok id → symbol_of fields ≡ Ok (symbol_view symbol)
    → Gives (λ (x : A). new) result (with_new most_records table id symbol)
    → Gives (λ (x : A). record r { info = record r.info { symbols = map (option_map symbol_view) new } }) result (with_symbol fields r)
symbol_given (Ok x) fields r table new id symbol same h k given =
    let put : with_new most_records r.info.symbols id (symbol_view symbol) ≡ Ok (map (option_map symbol_view) new) =
    rw (← same) (new_put symbol_view most_records table new id symbol given) in
    symbol_pushed fields r id (symbol_view symbol) (map (option_map symbol_view) new) h k put
symbol_given (Err why) fields r table new id symbol same h k given =
    passed_on why (with_new most_records table id symbol) (with_symbol fields r)
    (λ (fault : LineFault) (refused : with_new most_records table id symbol ≡ Err fault).
    let whole : with_new most_records r.info.symbols id (symbol_view symbol) ≡ Err fault =
    rw (← same) (new_refused symbol_view most_records table id symbol fault refused) in
    symbol_refused fields r id (symbol_view symbol) fault h k whole)
    given

-- ---- scopes and names of C

-- what a table of held records gives, that of their views gives
put_given : {A B H : Type 0} (view : H → B) (whole : Table B → Reading) (result : Result A LineError) (table new : Table H) (id : Placed) (item : H)
    → Gives (λ (x : A). new) result (with_new most_records table id item)
    → Gives (λ (x : A). whole (map (option_map view) new)) result
    (with_new most_records (map (option_map view) table) id (view item) >>= λ more. Ok (whole more))
put_given view whole (Ok x) table new id item given =
    ap (λ (r : Result (Table _) LineFault). r >>= λ more. Ok (whole more)) (new_put view most_records table new id item given)
put_given view whole (Err why) table new id item given =
    passed_on why (with_new most_records table id item) (with_new most_records (map (option_map view) table) id (view item) >>= λ more. Ok (whole more))
    (λ (fault : LineFault) (refused : with_new most_records table id item ≡ Err fault).
    ap (λ (r : Result (Table _) LineFault). r >>= λ more. Ok (whole more)) (new_refused view most_records table id item fault refused))
    given

pub scope_given : {A : Type 0} (result : Result A LineError) (r : Reading) (table new : Table HeldScope) (id : Placed) (scope : HeldScope)
    → map (option_map scope_view) table ≡ r.info.scopes
    → Gives (λ (x : A). new) result (with_new most_records table id scope)
    → Gives (λ (x : A). record r { info = record r.info { scopes = map (option_map scope_view) new } }) result (with_new_scope id (scope_view scope) r)
unfolding with_new_scope
scope_given result r table new id scope same given =
    rw (← same) (put_given scope_view (λ scopes. record r { info = record r.info { scopes = scopes } }) result table new id scope given)

pub c_symbol_given : {A : Type 0} (result : Result A LineError) (r : Reading) (table new : Table HeldCSymbol) (id : Placed) (name : HeldCSymbol)
    → map (option_map c_symbol_view) table ≡ r.info.c_symbols
    → Gives (λ (x : A). new) result (with_new most_records table id name)
    → Gives (λ (x : A). record r { info = record r.info { c_symbols = map (option_map c_symbol_view) new } }) result
    (with_new_c_symbol id (c_symbol_view name) r)
unfolding with_new_c_symbol
c_symbol_given result r table new id name same given =
    rw (← same) (put_given c_symbol_view (λ names. record r { info = record r.info { c_symbols = names } }) result table new id name given)
