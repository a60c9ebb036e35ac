-- Files that are read and files that are written, by their names. Which other names are one file, no
-- clause can say. Source: mos65.
use Rattle.std.specs.Borrow.{Bor}
use Rattle.std.specs.List.{list_any}
use Rattle.std.specs.Prelude.{◌==◌, Bool, List, Option, None, Some, false, length, option_map, ◌++◌, ◌∷◌, [], ◌||◌}
use Rattle.std.specs.Str.{bytes_eq}
use Rattle.clap.specs.Words.{Text}

-- A name that a file may have.
abbrev pub named : Option (Bor Text) → Option Text
named name = option_map (λ s. s.now) name

-- It is this one.
abbrev pub is_named : Text → Option Text → Bool
is_named name None = false
is_named name (Some other) = bytes_eq other name

-- It is one of these.
abbrev pub is_among : List (Option Text) → Option Text → Bool
is_among others None = false
is_among others (Some name) = list_any (is_named name) others

-- A file that is written has the name of one that is read, or of one that is written before it.
unfoldable pub clash : List (Option Text) → List (Option Text) → Bool
clash before [] = false
clash before (file ∷ written) = is_among before file || clash (before ++ (file ∷ [])) written

-- A file may be replaced that has no byte, or begins as what replaces it.
abbrev pub may_replace : Text → Text → Bool
may_replace front bytes = length bytes == 0 || bytes_eq bytes front
