-- What the words of `test` ask for, by the values that clap's definition of a parse finds among
-- them. Source: mos65.
use Rattle.std.specs.Prelude.{ℕ, nat_lt, Bool, true, false, not, ◌&&◌, ◌||◌, if◌then◌else◌, List, [], ◌∷◌, Option, Some, None, codes}
use Rattle.std.specs.List.{list_any}
use Rattle.std.specs.Str.{bytes_eq}
use Rattle.arguments.specs.Asked.{form_by, is_flag}
use Rattle.arguments.specs.Values.{steps_asked}
use Rattle.arguments.specs.declared.file_options.FileForm.{FileForm}
use Rattle.arguments.specs.declared.file_options.FileForm.TheVariants.{Source}
use Rattle.clap.specs.Words.{Text}
use Rattle.t65_reader.specs.RowText.{most_steps}
use Rattle.t65_reports.specs.declared.telling.Telling.{Telling}
use Rattle.t65_reports.specs.declared.telling.Telling.TheVariants.{Csv, Quiet, Summed, Tap}
use Rattle.t65_suites.specs.Suites.{ReadingAsked}

-- The files of rows, one at least, and the files that they are run on, where those are not the
-- files' own; how what they are run on is read; the files that a report for JUnit and one for lcov
-- go to, which have other names than these and each other; the most steps of a call; and what is
-- written of tests.
pub record TestAsked : Type 0 where
  pub files : List Text
  pub sources : List Text
  pub reading : ReadingAsked
  pub junit : Option Text
  pub coverage : Option Text
  pub steps : ℕ
  pub telling : Telling

abbrev pub has_name : Text → Text → Bool
has_name name file = bytes_eq file name

-- A report has the name of one of some files, which it would replace.
abbrev pub replaces : Option Text → List Text → Bool
replaces None files = false
replaces (Some report) files = list_any (has_name report) files

-- There are two files, and they have one name.
abbrev pub are_one : Option Text → Option Text → Bool
are_one (Some report) (Some other) = bytes_eq report other
are_one report other = false

-- A report has the name of a file that is read, or of the other report.
abbrev pub clash : Option Text → Option Text → Option Text → Option Text → List Text → List Text
    → Bool
clash junit coverage symbols debug sources files
    = replaces junit files || replaces junit sources || are_one junit symbols || are_one junit debug
    || replaces coverage files || replaces coverage sources || are_one coverage symbols
    || are_one coverage debug || are_one junit coverage

-- At most 4,294,967,295.
abbrev pub limit_of : Option ℕ → Option ℕ
limit_of None = None
limit_of (Some steps) = if nat_lt steps 4294967296 then Some steps else None

abbrev pub limit_asked : Option Text → Option ℕ
limit_asked None = Some most_steps
limit_asked (Some word) = limit_of (steps_asked (Some word))

abbrev pub sources_asked : Option (List Text) → List Text
sources_asked None = []
sources_asked (Some sources) = sources

-- Where random numbers begin: at most 4,294,967,295; where the rows say, if no word says it.
abbrev pub seed_of : Option ℕ → Option (Option ℕ)
seed_of None = None
seed_of (Some seed) = if nat_lt seed 4294967296 then Some (Some seed) else None

abbrev pub seed_asked : Option Text → Option (Option ℕ)
seed_asked None = Some None
seed_asked (Some word) = seed_of (steps_asked (Some word))

-- The routine whose rows alone are run; no byte for all routines.
abbrev pub only_asked : Option Text → Text
only_asked None = []
only_asked (Some word) = word

-- A source has its own names and lines: files that tell of them are for an image.
abbrev pub takes_names : FileForm → Bool
takes_names Source = false
takes_names form = true

abbrev pub are_named : Option Text → Option Text → Bool
are_named None None = false
are_named symbols debug = true

abbrev pub reading_as : FileForm → Option Text → Option Text → Option (Option ℕ) → Text
    → Option ReadingAsked
reading_as form symbols debug None only = None
reading_as form symbols debug (Some seed) only
    = if are_named symbols debug && not (takes_names form) then None else Some (record {
      form = form;
      symbols = symbols;
      debug = debug;
      seed = seed;
      only = only;
    })

abbrev pub reading_by : Option FileForm → Option Text → Option Text → Option (Option ℕ) → Text
    → Option ReadingAsked
reading_by None symbols debug seed only = None
reading_by (Some form) symbols debug seed only = reading_as form symbols debug seed only

-- How the files are read that rows are run on: as images with `--image`, `--bin HHHH` or `--prg`;
-- and which rows are run.
abbrev pub reading_asked : (Text → Option Text) → Option ReadingAsked
reading_asked value = reading_by (form_by value) (value (codes "symbols"))
    (value (codes "debug-info")) (seed_asked (value (codes "seed"))) (only_asked (value (codes "only")))

-- TAP, unless something else is asked for; CSV has no line that sums up, and no row.
abbrev pub telling_asked : Bool → Bool → Bool → Option Telling
telling_asked summary quiet csv = if csv then (if summary || quiet then None else Some Csv)
    else if quiet then Some Quiet else if summary then Some Summed else Some Tap

abbrev pub test_of : Option Text → Option Text → Option ℕ → Option ReadingAsked → Option Telling
    → List Text → List Text → Option TestAsked
test_of junit coverage None reading telling sources files = None
test_of junit coverage (Some steps) None telling sources files = None
test_of junit coverage (Some steps) (Some reading) None sources files = None
test_of junit coverage (Some steps) (Some reading) (Some telling) sources [] = None
test_of junit coverage (Some steps) (Some reading) (Some telling) sources (file ∷ files)
    = if clash junit coverage reading.symbols reading.debug sources (file ∷ files) then None
    else Some (record {
      files = file ∷ files;
      sources = sources;
      reading = reading;
      junit = junit;
      coverage = coverage;
      steps = steps;
      telling = telling;
    })

abbrev pub test_by : Option Text → Option Text → Option ℕ → Option ReadingAsked → Option Telling
    → List Text → Option (List Text) → Option TestAsked
test_by junit coverage steps reading telling sources None = None
test_by junit coverage steps reading telling sources (Some files)
    = test_of junit coverage steps reading telling sources files

abbrev pub telling_in : (Text → Option Text) → Option Telling
telling_in value = telling_asked (is_flag (value (codes "summary")))
    (is_flag (value (codes "quiet"))) (is_flag (value (codes "csv")))

-- What the first values and all values of the names ask for.
abbrev pub test_asked : (Text → Option Text) → (Text → Option (List Text)) → Option TestAsked
test_asked value values = test_by (value (codes "junit")) (value (codes "coverage"))
    (limit_asked (value (codes "steps"))) (reading_asked value) (telling_in value)
    (sources_asked (values (codes "source"))) (values (codes "FILE"))
