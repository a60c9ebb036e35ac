-- The path of the source that a file of rows names. Source: mos65.
use Rattle.std.specs.Prelude.{ℕ, ◌+◌, ◌==◌, if◌then◌else◌, List, [], ◌∷◌, ◌++◌}
use Rattle.debug_files.specs.Paths.{begins_at_root, folder_of}

-- The folder in which a name is looked for: that of the file of rows, unless the name begins with
-- `/`.
abbrev pub folder_for : List ℕ → List ℕ → List ℕ
folder_for file name = if begins_at_root name then [] else folder_of file

abbrev pub source_path : List ℕ → List ℕ → List ℕ
source_path file name = folder_for file name ++ name
