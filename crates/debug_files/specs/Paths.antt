-- Where a source lies that a debug file names. Source: mos65.
use Rattle.std.specs.Prelude.{ℕ, ◌+◌, ◌==◌, Bool, false, if◌then◌else◌, List, [], ◌∷◌, ◌++◌, codes, map, take, Option, Some, None}

-- The name of a source with `/` where Windows writes `\`.
abbrev pub slashed_byte : ℕ → ℕ
slashed_byte b = if b == 92 then 47 else b

abbrev pub slashed : List ℕ → List ℕ
slashed name = map slashed_byte name

-- Where the name of the file begins in the rest of a path: after the last `/`, if there is one.
unfoldable pub name_start : ℕ → ℕ → List ℕ → ℕ
name_start at start [] = start
name_start at start (b ∷ path) = name_start (at + 1) (if b == 47 then at + 1 else start) path

-- The part of a path before the name of its file, with the `/`.
abbrev pub folder_of : List ℕ → List ℕ
folder_of path = take (name_start 0 0 path) path

abbrev pub begins_at_root : List ℕ → Bool
begins_at_root [] = false
begins_at_root (b ∷ name) = b == 47

-- Where relative names begin: in the folder that is named, or otherwise in that of the debug file.
abbrev pub root_folder : List ℕ → Option (List ℕ) → List ℕ
root_folder file None = folder_of file
root_folder file (Some root) = root ++ codes "/"

abbrev pub source_path : List ℕ → Option (List ℕ) → List ℕ → List ℕ
source_path file root name = (if begins_at_root name then [] else root_folder file root) ++ name
