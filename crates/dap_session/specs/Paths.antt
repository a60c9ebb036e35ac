-- The paths of the files of a program's source. Source: mos65.
use Rattle.std.specs.Prelude.{ℕ, List, [], ◌∷◌, map, slice_get, string_bytes, Option, Some, None}
use Rattle.std.specs.Str.Lossy.{utf8_lossy}
use Rattle.dap_messages.specs.Seen.{SeenLaunch}
use Rattle.dap_session.specs.Options.{program_of}
use Rattle.dap_views.specs.declared.source.FilePath.{FilePath}
use Rattle.debug_files.specs.Paths.{source_path}
use Rattle.source_map.specs.Lines.{SourceView}

abbrev pub path_of : FilePath → List ℕ
path_of file = string_bytes file.path

-- Where a file of debug information says that a source lies.
abbrev pub debug_path : List ℕ → Option (List ℕ) → SourceView → List ℕ
debug_path file root source = utf8_lossy (source_path file root source.name)

-- Of the sources that it names, if one is named; otherwise of the program.
abbrev pub paths_by : Option (List ℕ) → Option (List ℕ) → List ℕ → List SourceView → List (List ℕ)
paths_by (Some file) root program sources = map (debug_path file root) sources
paths_by None root program sources = program ∷ []

abbrev pub paths_of : SeenLaunch → List SourceView → List (List ℕ)
paths_of launch sources
    = paths_by launch.debug_info launch.source_root (program_of launch) sources

-- The path of the file of a number: empty if there is none.
abbrev pub path_or_none : Option FilePath → List ℕ
path_or_none (Some file) = path_of file
path_or_none None = []

abbrev pub path_at : List FilePath → ℕ → List ℕ
path_at files file = path_or_none (slice_get files file)
