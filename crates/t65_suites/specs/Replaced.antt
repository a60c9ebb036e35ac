-- Files that are read, and that a report would replace. Which names are other names of a file, and
-- which file a file of rows names, no clause can say. Source: mos65.
use Rattle.std.specs.Prelude.{◌≡◌, ◌⊎◌, ◌||◌, Bool, false, List, Option, None, Some, Contains}
use Rattle.std.specs.List.{list_any}
use Rattle.std.specs.Str.{bytes_eq}
use Rattle.arguments.specs.Outputs.{is_named}
use Rattle.clap.specs.Words.{Text}
use Rattle.debug_files.specs.Written.{IsPathOf}
use Rattle.t65_suites.specs.Prepared.{path_of}
use Rattle.t65_suites.specs.Suites.{ReadingAsked, SuiteAsked}

-- A report has the name of a suite's file of rows, or of a file that the words name for it.
abbrev pub is_read : Text → SuiteAsked → Bool
is_read report suite = bytes_eq suite.rows report || is_named report suite.source
    || (is_named report suite.reading.symbols || is_named report suite.reading.debug)

-- A report, if there is one, has the name of a file that is read for some suites.
abbrev pub replaces_any : Option Text → List SuiteAsked → Bool
replaces_any None suites = false
replaces_any (Some report) suites = list_any (is_read report) suites

-- The path of the file that a suite's rows are run on, by the name that its file of rows has for
-- it.
abbrev pub IsSourceOf : SuiteAsked → Text → Type 0
IsSourceOf suite path = (name : Text) × (path ≡ path_of suite name)

-- The file of a suite's names, or of its debug information.
abbrev pub IsNamedIn : SuiteAsked → Text → Type 0
IsNamedIn suite path = (suite.reading.symbols ≡ Some path) ⊎ (suite.reading.debug ≡ Some path)

-- A file is read for a suite: its file of rows, the one that they are run on, or one that tells of
-- that.
abbrev pub IsReadForOne : SuiteAsked → Text → Type 0
IsReadForOne suite path = (path ≡ suite.rows) ⊎ (IsSourceOf suite path ⊎ IsNamedIn suite path)

-- A file is read for one of some suites.
abbrev pub IsReadFor : List SuiteAsked → Text → Type 0
IsReadFor suites path = (suite : SuiteAsked) × Contains suites suite × IsReadForOne suite path

-- The path of a source by the debug information that is named, whose name that file has for it.
abbrev pub IsToldBy : ReadingAsked → Text → Type 0
IsToldBy reading path = (file : Text) × (root : Option Text) × (reading.debug ≡ Some file)
    × IsPathOf file root path

abbrev pub IsReadOrTold : ReadingAsked → List SuiteAsked → Text → Type 0
IsReadOrTold reading suites path = IsReadFor suites path ⊎ IsToldBy reading path
