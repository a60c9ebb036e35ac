-- Why a file of rows cannot be tested. No clause can say whether memory is there, nor what is in a
-- file. Source: mos65.
use Rattle.std.specs.Prelude.{◌≡◌, ◌⊎◌, ⊤, ℕ, false, List, [], Option, None, Some, Ok, Err, string_bytes}
use Rattle.arguments.specs.Asked.{FileAsked}
use Rattle.arguments.specs.Values.{base_of}
use Rattle.arguments.specs.declared.refusal.Refusal.{Refusal}
use Rattle.arguments.specs.declared.refusal.Refusal.TheVariants.{Map as NoMap, OutOfMemory, Read}
use Rattle.arguments.specs.declared.load_fault.LoadFault.{LoadFault}
use Rattle.arguments.specs.declared.load_fault.LoadFault.TheVariants as load
use Rattle.assembler.specs.Assembly.{AssemblyView}
use Rattle.clap.specs.Words.{Text}
use Rattle.debug_files.specs.Loads.{EndsDebug}
use Rattle.model.specs.Names.{Definitions}
use Rattle.model.specs.State.{is_map}
use Rattle.model.specs.TextLines.{lines_of}
use Rattle.model.specs.declared.bus_fault.BusFault.TheVariants.{BadMap}
use Rattle.source_map.specs.Lines.{PlacesView}
use Rattle.t65_suites.specs.CFunctions.{AreFunctions}
use Rattle.t65_suites.specs.HeadText.{SeenHead, head_from}
use Rattle.t65_suites.specs.Prepared.{ArePlaces, map_of}
use Rattle.t65_reader.specs.CPrograms.{SeenProgram}
use Rattle.t65_reader.specs.RowText.{Rows, SeenAsking, SeenLine, points_of, rows_from}
use Rattle.t65_runner.specs.Parts.{tests_of}
use Rattle.t65_suites.specs.Programs.{EndsProgram, IsProgram, file_asked}
use Rattle.t65_suites.specs.Suites.{ReadingAsked, asking_of}
use Rattle.t65_suites.specs.declared.fault.FileFault.{FileFault}
use Rattle.t65_suites.specs.declared.fault.FileFault.TheVariants.{InDebug, InProgram, InRows}
use Rattle.t65_suites.specs.declared.fault.Unplaced.{Unplaced}
use Rattle.t65_suites.specs.declared.fault.Unplaced.TheVariants.{Debug, Program}
use Rattle.t65_suites.specs.declared.fault.TestFault.{TestFault}
use Rattle.t65_suites.specs.declared.fault.TestFault.TheVariants.{Rows as NotRows, TooLarge, NoRow, Refused}

-- The head of some file of rows, and the lines after it.
pub record HeadedFile : Type 0 where
  pub text : List ℕ
  pub head : SeenHead
  pub next : ℕ
  pub lines : List (List ℕ)
  pub headed : head_from 1 (lines_of text) ≡ Ok (head, next, lines)

-- The rows of some file, which are worth so many points together, are read so under the names of
-- some file that is loaded on its map, and with its functions of C.
pub record AreRead (reading : ReadingAsked) (points : ℕ) (rows : Rows) : Type 0 where
  pub file : HeadedFile
  pub path : Text
  pub assembly : AssemblyView
  pub program : IsProgram (file_asked reading file.head path) reading.symbols assembly
  pub places : PlacesView
  pub placed : ArePlaces reading.debug file.head.profile path assembly places
  pub steps : ℕ
  pub c_program : SeenProgram
  pub called : AreFunctions reading.debug (map_of file.head) assembly.image file.head.stack places
      c_program
  pub read : rows_from (asking_of steps reading) assembly.names c_program file.next file.lines
      ≡ rows
  pub points_are : points ≡ points_of reading.only file.lines

-- Why a file cannot be tested, where it is what other words are refused for too: its head asks for a
-- map that is none, it cannot be read, or memory ran out.
abbrev pub EndsRefused : ℕ → Refusal → Type 0
EndsRefused points (NoMap fault) = (file : HeadedFile) × (fault ≡ BadMap)
    × (is_map file.head.rom (base_of file.head.port) ≡ false) × (points ≡ 0)
EndsRefused points OutOfMemory = ⊤
EndsRefused points (Read why) = points ≡ 0
EndsRefused points refusal = ⊥

-- Why a file of rows cannot be tested, and how many points its rows are worth: its head has this
-- fault, or a row that is run before or after each test; no line is a test; or it is refused. They
-- are worth none where it has no head, or is refused.
abbrev pub EndsTest : ReadingAsked → ℕ → TestFault → Type 0
EndsTest reading points (NotRows fault)
    = ((text : List ℕ) × (head_from 1 (lines_of text) ≡ Err fault) × (points ≡ 0))
    ⊎ AreRead reading points (Err fault)
EndsTest reading points TooLarge = points ≡ 0
EndsTest reading points NoRow = (rows : List SeenLine) × AreRead reading points (Ok rows)
    × (tests_of rows ≡ [])
EndsTest reading points (Refused refusal) = EndsRefused points refusal

-- The same for every suite, before its rows are reached.
abbrev pub EndsAnyTest : TestFault → Type 0
EndsAnyTest fault = (reading : ReadingAsked) → EndsTest reading 0 fault

-- Why it is not known what stands where in a program: its debug information is not loaded.
abbrev pub EndsPlaces : Option Text → LoadFault → Type 0
EndsPlaces None fault = fault ≡ load.Refused OutOfMemory
EndsPlaces (Some file) fault = EndsDebug fault

-- Why there is nothing to run rows on: the file is not loaded, or its debug information.
abbrev pub EndsPlaced : FileAsked → ReadingAsked → Unplaced → Type 0
EndsPlaced asked reading (Program fault) = EndsProgram asked reading.symbols fault
EndsPlaced asked reading (Debug fault) = EndsPlaces reading.debug fault

-- Why a suite cannot be tested, and how many points its rows are worth together: its file of rows
-- cannot, or the file that its rows are run on is not loaded on the map of its head, or its debug
-- information is not.
abbrev pub EndsFile : ReadingAsked → ℕ → FileFault → Type 0
EndsFile reading points (InRows fault) = EndsTest reading points fault
EndsFile reading points (InProgram path fault) = (file : HeadedFile)
    × EndsProgram (file_asked reading file.head (string_bytes path)) reading.symbols fault
    × (points ≡ points_of reading.only file.lines)
EndsFile reading points (InDebug fault) = (file : HeadedFile) × EndsPlaces reading.debug fault
    × (points ≡ points_of reading.only file.lines)

-- Why rows are not read under some names, with some functions of C.
abbrev pub EndsRows : SeenAsking → Definitions → SeenProgram → ℕ → List (List ℕ) → TestFault
    → Type 0
EndsRows asking names program next lines (NotRows fault)
    = rows_from asking names program next lines ≡ Err fault
EndsRows asking names program next lines NoRow = (rows : List SeenLine)
    × (rows_from asking names program next lines ≡ Ok rows) × (tests_of rows ≡ [])
EndsRows asking names program next lines fault = fault ≡ Refused OutOfMemory
