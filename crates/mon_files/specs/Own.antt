-- Whether a line would write over a file that the session has read. Which other names are one file, no
-- clause can say. Source: mos65.
use Rattle.std.specs.Prelude.{◌||◌, Bool, false, List, ℕ, Option, None, Some}
use Rattle.std.specs.Str.{bytes_eq}
use Rattle.arguments.specs.FileNames.{name_of}
use Rattle.arguments.specs.OtherFiles.{Others}
use Rattle.arguments_play.specs.Mon.{MonAsked}
use Rattle.debug_files.specs.Written.{is_source}
use Rattle.source_map.specs.Lines.{PlacesView}

-- The file of a word that may be there.
abbrev pub is_of_word : List ℕ → Option (List ℕ) → Bool
is_of_word path None = false
is_of_word path (Some word) = bytes_eq path (name_of word)

-- The file that an option names, if one is named.
abbrev pub is_beside : List ℕ → Option (List ℕ) → Bool
is_beside path None = false
is_beside path (Some named) = bytes_eq path named

abbrev pub is_other : List ℕ → Others → Bool
is_other path others = is_of_word path others.second
    || (is_of_word path others.third || is_of_word path others.fourth)

-- A file has the name of one that the words name.
abbrev pub is_named : MonAsked → List ℕ → Bool
is_named a path = bytes_eq path a.file.file
    || (is_other path a.others || (is_beside path a.symbols || is_beside path a.debug_info))

-- A file has such a name, or the path of a source that debug information names.
abbrev pub is_own : MonAsked → PlacesView → List ℕ → Bool
is_own a places path = is_named a path
    || is_source a.debug_info a.source_root (Some places) path
