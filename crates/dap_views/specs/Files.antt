-- The files of a program's source. Source: mos65.
use Rattle.std.specs.Prelude.{ℕ, ◌≡◌, ◌<◌, Bool, false, List, length, map, take, string_bytes, Option, Some, None}
use Rattle.std.specs.List.{list_any}
use Rattle.std.specs.Str.{bytes_eq}
use Rattle.dap_messages.specs.SeenAnswers.{SeenAnswer, SeenItem, source_file, sources_body}
use Rattle.dap_views.specs.declared.source.FilePath.{FilePath}

abbrev pub has_path : List ℕ → FilePath → Bool
has_path path file = bytes_eq path (string_bytes file.path)

-- The number of a file that a path names: none before it has this path. Or no file has it. Which
-- other paths name the same file, no definition can say.
abbrev pub IsNamed : List FilePath → List ℕ → Option ℕ → Type 0
IsNamed files path (Some file) = (file < length files)
    × (list_any (has_path path) (take file files) ≡ false)
IsNamed files path None = list_any (has_path path) files ≡ false

-- ---- what is shown of them

abbrev pub file_item : FilePath → SeenItem
file_item file = source_file (string_bytes file.name) (string_bytes file.path)

abbrev pub sources_listed : List FilePath → List SeenItem
sources_listed files = map file_item files

abbrev pub sources_shown : List FilePath → SeenAnswer
sources_shown files = sources_body (sources_listed files)
