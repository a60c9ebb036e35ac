-- Which files of rows are run on which files, and how these are read. Source: mos65.
use Rattle.std.specs.Prelude.{ℕ, ◌==◌, if◌then◌else◌, List, [], ◌∷◌, Option, Some, None, length, map, option_map}
use Rattle.std.specs.List.{flat_map}
use Rattle.arguments.specs.declared.file_options.FileForm.{FileForm}
use Rattle.clap.specs.Words.{Text}
use Rattle.t65_reader.specs.RowText.{SeenAsking}
use Rattle.t65_suites.specs.declared.suites.Reading.{Reading}
use Rattle.t65_suites.specs.declared.suites.Suite.{Suite}

-- How a file is read that rows are run on: its form, the file whose names an image has and that of
-- its debug information, where these are named; where random numbers begin, if not where the rows
-- say; and the routine whose rows alone are run: those of all routines, where this is no byte.
pub record ReadingAsked : Type 0 where
  pub form : FileForm
  pub symbols : Option Text
  pub debug : Option Text
  pub seed : Option ℕ
  pub only : Text

-- What is asked of the rows of a suite that is read so.
abbrev pub asking_of : ℕ → ReadingAsked → SeenAsking
asking_of steps reading = record { steps = steps; seed = reading.seed; only = reading.only }

-- A file of rows, the file that its rows are run on where it is not the one that the file of rows
-- names, and how that is read.
pub record SuiteAsked : Type 0 where
  pub rows : Text
  pub source : Option Text
  pub reading : ReadingAsked

-- A suite has the name of the file that its rows are run on, where the words name it.
abbrev pub name_by : Text → Option Text → Text
name_by rows None = rows
name_by rows (Some source) = source

abbrev pub name_of : SuiteAsked → Text
name_of suite = name_by suite.rows suite.source

abbrev pub on_source : ReadingAsked → Text → Text → SuiteAsked
on_source reading rows source = record { rows = rows; source = Some source; reading = reading }

abbrev pub on_own : ReadingAsked → Text → SuiteAsked
on_own reading rows = record { rows = rows; source = None; reading = reading }

-- A file of rows is run on each of the files that the words name, or on its own.
abbrev pub suites_of_file : ReadingAsked → List Text → Text → List SuiteAsked
suites_of_file reading sources rows = if length sources == 0 then on_own reading rows ∷ []
    else map (on_source reading rows) sources

abbrev pub suites_of : ReadingAsked → List Text → List Text → List SuiteAsked
suites_of reading sources files = flat_map (suites_of_file reading sources) files

-- ---- as the code keeps them

abbrev pub reading_view : Reading → ReadingAsked
reading_view reading = record {
  form = reading.form;
  symbols = option_map (λ s. s.now) reading.symbols;
  debug = option_map (λ s. s.now) reading.debug;
  seed = reading.seed;
  only = reading.only.now;
}

abbrev pub suite_view : Suite → SuiteAsked
suite_view suite = record {
  rows = suite.rows.now;
  source = option_map (λ s. s.now) suite.source;
  reading = reading_view suite.reading;
}
