-- Why a suite cannot be tested, by what its parts say.
use Rattle.std.proofs.Common.{◌≡◌, ℕ, List, [], Bool, Ok, Err, false, true, inl, inr, refl, sym, ap, subst}
use Rattle.std.proofs.lemmas.Bool.{false≢true}
use Rattle.std.specs.Prelude.{◌⊎◌, Option, None, Some, String, Result, IfErr, IsErrAnd, string_bytes}
use Rattle.std.specs.declared.alloc.Global.{Global}
use Rattle.arguments.specs.Values.{base_of}
use Rattle.arguments.specs.declared.refusal.Refusal.TheVariants.{Map as NoMap, OutOfMemory}
use Rattle.arguments.specs.declared.load_fault.LoadFault.{LoadFault}
use Rattle.arguments.specs.declared.load_fault.LoadFault.TheVariants as load
use Rattle.assembler.specs.Assembly.{AssemblyView}
use Rattle.clap.specs.Words.{Text}
use Rattle.debug_files.specs.Loads.{EndsDebug}
use Rattle.loading.specs.declared.named.NamedFault.{NamedFault}
use Rattle.model.specs.State.{Map, is_map}
use Rattle.model.specs.TextLines.{lines_of}
use Rattle.model.specs.declared.bus_fault.BusFault.TheVariants.{BadMap}
use Rattle.model.specs.Names.{Definitions}
use Rattle.t65_suites.specs.HeadText.{SeenHead, head_from}
use Rattle.source_map.specs.Lines.{PlacesView}
use Rattle.t65_reader.specs.RowText.{Rows, SeenAsking, SeenLine, points_of, rows_from}
use Rattle.t65_values.specs.declared.fault.TextFault.{TextFault}
use Rattle.t65_reader.specs.CPrograms.{SeenProgram}
use Rattle.t65_suites.specs.CFunctions.{AreFunctions}
use Rattle.t65_suites.specs.Prepared.{ArePlaces, map_of}
use Rattle.t65_suites.specs.Ends.{AreRead, EndsAnyTest, EndsFile, EndsPlaced, EndsPlaces, EndsRows, EndsTest, HeadedFile}
use Rattle.t65_suites.specs.FaultTexts.{fault_at}
use Rattle.t65_suites.specs.declared.fault.Unplaced.{Unplaced}
use Rattle.t65_suites.specs.declared.fault.Unplaced.TheVariants.{Debug, Program}
use Rattle.t65_suites.specs.Programs.{EndsProgram, IsProgram, file_asked}
use Rattle.t65_suites.specs.Suites.{ReadingAsked, asking_of}
use Rattle.t65_runner.specs.Parts.{tests_of}
use Rattle.t65_suites.specs.declared.fault.Unprepared.{Unprepared}
use Rattle.t65_suites.specs.declared.fault.FileFault.{FileFault}
use Rattle.t65_suites.specs.declared.fault.FileFault.TheVariants.{InProgram, InRows}
use Rattle.t65_suites.specs.declared.fault.TestFault.{TestFault}
use Rattle.t65_suites.specs.declared.fault.TestFault.TheVariants.{Rows as NotRows, TooLarge, NoRow, Refused}

pub head_ends : (text : List ℕ) (fault : TextFault) → head_from 1 (lines_of text) ≡ Err fault → EndsAnyTest (NotRows fault)
head_ends text fault refused = λ reading. inl (text, refused, refl)

pub no_test : (asking : SeenAsking) (names : Definitions) (program : SeenProgram) (next : ℕ) (lines : List (List ℕ)) (rows : List SeenLine)
    → rows_from asking names program next lines ≡ Ok rows → tests_of rows ≡ []
    → EndsRows asking names program next lines NoRow
no_test asking names program next lines rows read none = (rows, read, none)

-- Memory that ran out is why places of no program are known.
pub memory_ends : (debug : Option Text) (fault : LoadFault) → fault ≡ load.Refused OutOfMemory → EndsPlaces debug fault
memory_ends None fault is = is
memory_ends (Some file) fault is = subst EndsDebug (sym is) tt

abbrev is_too_large : TestFault → Bool
is_too_large TooLarge = true
is_too_large fault = false

-- Memory that ran out is no file that is too large.
too_large : TooLarge ≡ Refused OutOfMemory → ⊥
too_large same = false≢true (sym (ap is_too_large same))

abbrev headed_file : (text : List ℕ) (head : SeenHead) (next : ℕ) (lines : List (List ℕ)) → head_from 1 (lines_of text) ≡ Ok (head, next, lines) → HeadedFile
headed_file text head next lines headed = record { text = text; head = head; next = next; lines = lines; headed = headed }

pub map_ends : (text : List ℕ) (head : SeenHead) (next : ℕ) (lines : List (List ℕ)) (fault : TestFault)
    → head_from 1 (lines_of text) ≡ Ok (head, next, lines) → fault ≡ Refused (NoMap BadMap) → is_map head.rom (base_of head.port) ≡ false → EndsAnyTest fault
map_ends text head next lines fault headed is none =
    subst EndsAnyTest (sym is) (λ reading. (headed_file text head next lines headed, refl, none, refl))

pub program_ends : (reading : ReadingAsked) (text : List ℕ) (head : SeenHead) (next : ℕ) (lines : List (List ℕ)) (path : String Global)
    (name : List ℕ) (fault : NamedFault) (points : ℕ)
    → head_from 1 (lines_of text) ≡ Ok (head, next, lines) → name ≡ string_bytes path
    → EndsProgram (file_asked reading head name) reading.symbols fault → points ≡ points_of reading.only lines
    → EndsFile reading points (InProgram path fault)
program_ends reading text head next lines path name fault points headed named ends are =
    (headed_file text head next lines headed, subst (λ n. EndsProgram (file_asked reading head n) reading.symbols fault) named ends, are)

-- A fault of what rows are run on.
pub placed_ends : (reading : ReadingAsked) (text : List ℕ) (head : SeenHead) (next : ℕ) (lines : List (List ℕ)) (path : String Global)
    (name : List ℕ) (fault : Unplaced) (points : ℕ)
    → head_from 1 (lines_of text) ≡ Ok (head, next, lines) → name ≡ string_bytes path
    → EndsPlaced (file_asked reading head name) reading fault → points ≡ points_of reading.only lines
    → EndsFile reading points (fault_at path fault)
placed_ends reading text head next lines path name (Program fault) points headed named ends are =
    program_ends reading text head next lines path name fault points headed named ends are
placed_ends reading text head next lines path name (Debug fault) points headed named ends are =
    (headed_file text head next lines headed, ends, are)

-- What is told of the rows of a file that cannot be tested.
abbrev read_so : (reading : ReadingAsked) (text : List ℕ) (head : SeenHead) (next : ℕ) (lines : List (List ℕ)) (path : List ℕ) (assembly : AssemblyView)
    (places : PlacesView) (steps : ℕ) (c_program : SeenProgram) (bus_map : Map) (points : ℕ) (rows : Rows)
    → head_from 1 (lines_of text) ≡ Ok (head, next, lines) → IsProgram (file_asked reading head path) reading.symbols assembly
    → ArePlaces reading.debug head.profile path assembly places → bus_map ≡ map_of head
    → AreFunctions reading.debug bus_map assembly.image head.stack places c_program
    → rows_from (asking_of steps reading) assembly.names c_program next lines ≡ rows → points ≡ points_of reading.only lines
    → AreRead reading points rows
read_so reading text head next lines path assembly places steps c_program bus_map points rows headed program placed same called read are = record {
  file = headed_file text head next lines headed;
  path = path;
  assembly = assembly;
  program = program;
  places = places;
  placed = placed;
  steps = steps;
  c_program = c_program;
  called = subst (λ m. AreFunctions reading.debug m assembly.image head.stack places c_program) same called;
  read = read;
  points_are = are;
}

pub rows_end : (reading : ReadingAsked) (text : List ℕ) (head : SeenHead) (next : ℕ) (lines : List (List ℕ)) (path : List ℕ) (assembly : AssemblyView)
    (places : PlacesView) (steps : ℕ) (c_program : SeenProgram) (bus_map : Map) (fault : TestFault) (points : ℕ)
    → head_from 1 (lines_of text) ≡ Ok (head, next, lines) → IsProgram (file_asked reading head path) reading.symbols assembly
    → ArePlaces reading.debug head.profile path assembly places → bus_map ≡ map_of head
    → AreFunctions reading.debug bus_map assembly.image head.stack places c_program
    → EndsRows (asking_of steps reading) assembly.names c_program next lines fault → points ≡ points_of reading.only lines
    → EndsTest reading points fault
rows_end reading text head next lines path assembly places steps c_program bus_map (NotRows fault) points headed program placed same called ends are =
    inr (read_so reading text head next lines path assembly places steps c_program bus_map points (Err fault) headed program placed same called ends are)
rows_end reading text head next lines path assembly places steps c_program bus_map TooLarge points headed program placed same called ends are =
    absurd (too_large ends)
rows_end reading text head next lines path assembly places steps c_program bus_map NoRow points headed program placed same called ends are = (
  ends.0,
  read_so reading text head next lines path assembly places steps c_program bus_map points (Ok ends.0) headed program placed same called ends.1 are,
  ends.2,
)
rows_end reading text head next lines path assembly places steps c_program bus_map (Refused refusal) points headed program placed same called ends are =
    subst (EndsTest reading points) (sym ends) tt

-- Rows that cannot be read, or memory that ran out while that was told.
pub unread_ends : (reading : ReadingAsked) (points worth : ℕ) (fault : TestFault) (why : FileFault)
    → (why ≡ InRows fault) ⊎ (why ≡ InRows (Refused OutOfMemory)) → worth ≡ points
    → EndsTest reading points fault → EndsFile reading worth why
unread_ends reading points worth fault why (inl is) same ends =
    subst (λ n. EndsFile reading n why) (sym same) (subst (λ f. EndsFile reading points f) (sym is) ends)
unread_ends reading points worth fault why (inr is) same ends =
    subst (λ n. EndsFile reading n why) (sym same) (subst (λ f. EndsFile reading points f) (sym is) tt)

-- The fault of a file of rows, passed on.
pub passed_on : {X : Type 0} (result : Result X Unprepared) (reading : ReadingAsked) (fault : TestFault)
    → IsErrAnd result (λ e. (e.fault ≡ InRows fault) × (e.points ≡ 0)) → EndsAnyTest fault
    → IfErr result (λ why. EndsFile reading why.points why.fault)
passed_on (Ok x) reading fault h ends = absurd h
passed_on (Err e) reading fault h ends = subst (λ f. EndsFile reading e.points f) (sym h.0) (subst (λ n. EndsTest reading n fault) (sym h.1) (ends reading))
