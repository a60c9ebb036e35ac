-- What is read of a suite before its tests are run. Source: mos65.
use Rattle.std.specs.Prelude.{◌≡◌, ◌++◌, ℕ, List, Option, Some, None, Ok, map}
use Rattle.arguments.specs.Values.{base_of}
use Rattle.assembler.specs.Assembly.{AssemblyView}
use Rattle.clap.specs.Words.{Text}
use Rattle.debug_files.specs.Loads.{AreDebugPlaces}
use Rattle.model.specs.Names.{Definitions}
use Rattle.model.specs.State.{Map}
use Rattle.model.specs.TextLines.{lines_of}
use Rattle.model.specs.declared.instruction.Profile.{Profile}
use Rattle.source_map.specs.Lines.{PlacesView, places_of}
use Rattle.source_map.specs.Names.{names_in}
use Rattle.t65_reader.specs.CPrograms.{SeenProgram}
use Rattle.t65_suites.specs.CFunctions.{AreFunctions}
use Rattle.t65_suites.specs.HeadText.{SeenHead, head_from}
use Rattle.t65_reader.specs.RowText.{SeenLine, SeenRow, line_view, rows_from}
use Rattle.t65_reader.specs.declared.row.Part.TheVariants.{Setup, Teardown}
use Rattle.t65_runner.specs.Parts.{rows_of, tests_of}
use Rattle.t65_suites.specs.Paths.{source_path}
use Rattle.t65_suites.specs.Programs.{IsProgram, file_asked}
use Rattle.t65_suites.specs.Suites.{SuiteAsked, asking_of}
use Rattle.t65_suites.specs.declared.prepared.Prepared.{Prepared}

-- The map that a head asks for.
abbrev pub map_of : SeenHead → Map
map_of head = record { profile = head.profile; rom = head.rom; port = base_of head.port }

-- The path of the file that a suite's rows are run on: the one that the words name, or that the
-- file of rows does.
abbrev pub path_by : Text → Option Text → Text → Text
path_by rows None name = source_path rows name
path_by rows (Some source) name = source

abbrev pub path_of : SuiteAsked → Text → Text
path_of suite name = path_by suite.rows suite.source name

-- Places with the names of a program besides.
abbrev pub named_places : PlacesView → AssemblyView → PlacesView
named_places places assembly = record places { names = places.names ++ names_in assembly }

-- What stands where in a program: by the debug information of a file with the program's names
-- besides, or by its own source.
abbrev pub ArePlaces : Option Text → Profile → Text → AssemblyView → PlacesView → Type 0
ArePlaces None profile path assembly places = places ≡ places_of path assembly
ArePlaces (Some file) profile path assembly places = (told : PlacesView)
    × AreDebugPlaces (record { profile = profile; image = assembly.image }) told
    × (places ≡ named_places told assembly)

-- The text of a file of rows, its head, the path of the file that they are run on, what is loaded
-- of that, what stands where in it, its functions of C, and what the lines ask for under its names.
pub record TestedFile (steps : ℕ) (suite : SuiteAsked) : Type 0 where
  pub text : List ℕ
  pub head : SeenHead
  pub next : ℕ
  pub lines : List (List ℕ)
  pub headed : head_from 1 (lines_of text) ≡ Ok (head, next, lines)
  pub path : Text
  pub path_is : path ≡ path_of suite head.source
  pub assembly : AssemblyView
  pub program : IsProgram (file_asked suite.reading head path) suite.reading.symbols assembly
  pub places : PlacesView
  pub placed : ArePlaces suite.reading.debug head.profile path assembly places
  pub c_program : SeenProgram
  pub called : AreFunctions suite.reading.debug (map_of head) assembly.image head.stack places
      c_program
  pub rows : List SeenLine
  pub read : rows_from (asking_of steps suite.reading) assembly.names c_program next lines
      ≡ Ok rows

-- ---- its machine

-- A machine at its start, what stands where in its source, the source's names, and the rows that
-- are run before and after each test.
pub record Ground : Type 0 where
  pub bus_map : Map
  pub image : List (Option ℕ)
  pub places : PlacesView
  pub names : Definitions
  pub before : List (ℕ × SeenRow)
  pub after : List (ℕ × SeenRow)

abbrev pub ground_of : (steps : ℕ) → (suite : SuiteAsked) → TestedFile steps suite → Ground
ground_of steps suite file = record {
  bus_map = map_of file.head;
  image = file.assembly.image;
  places = file.places;
  names = file.assembly.names;
  before = rows_of Setup file.rows;
  after = rows_of Teardown file.rows;
}

abbrev pub ground_in : Prepared → Ground
ground_in prepared = record {
  bus_map = prepared.map;
  image = prepared.assembly.image;
  places = prepared.places;
  names = prepared.assembly.names;
  before = rows_of Setup (map line_view prepared.rows.items);
  after = rows_of Teardown (map line_view prepared.rows.items);
}

abbrev pub tests_in : Prepared → List SeenLine
tests_in prepared = tests_of (map line_view prepared.rows.items)

-- What was prepared of a suite is what its file says.
pub record IsPrepared (steps : ℕ) (suite : SuiteAsked) (prepared : Prepared) : Type 0 where
  pub file : TestedFile steps suite
  pub text_is : file.text ≡ prepared.text.items
  pub ground_is : ground_of steps suite file ≡ ground_in prepared
  pub rows_are : file.rows ≡ map line_view prepared.rows.items
  pub form_is : prepared.form ≡ suite.reading.form
