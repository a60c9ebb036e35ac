-- A file that is written, and the sources that debug information names. Which other names are one file,
-- no clause can say. Source: mos65.
use Rattle.std.specs.Prelude.{◌≡◌, ◌⊎◌, ⊤, ℕ, Bool, true, false, nat_lt, List, length, Option, None, Some, MatchResult}
use Rattle.std.specs.List.{list_any}
use Rattle.std.specs.Str.{bytes_eq}
use Rattle.arguments.specs.Files.{EndsReading}
use Rattle.arguments.specs.declared.refusal.Refusal.{Refusal}
use Rattle.debug_files.specs.Forms.{info_of}
use Rattle.debug_files.specs.Paths.{source_path}
use Rattle.debug_records.specs.Records.{File}
use Rattle.source_map.specs.Lines.{PlacesView, SourceView}

-- A source lies at this path.
abbrev pub lies_at : List ℕ → Option (List ℕ) → List ℕ → SourceView → Bool
lies_at file root path source = bytes_eq (source_path file root source.name) path

-- One of these does.
abbrev pub is_among : List ℕ → Option (List ℕ) → List SourceView → List ℕ → Bool
is_among file root sources path = list_any (lies_at file root path) sources

-- The path is that of a source which debug information names, if there is some.
abbrev pub is_source : Option (List ℕ) → Option (List ℕ) → Option PlacesView → List ℕ → Bool
is_source (Some file) root (Some places) path = is_among file root places.sources path
is_source (Some file) root None path = false
is_source None root places path = false

-- It names one at least.
abbrev pub has_source : Option (List ℕ) → Option PlacesView → Bool
has_source (Some file) (Some places) = nat_lt 0 (length places.sources)
has_source (Some file) None = false
has_source None places = false

-- A file that is written, if there is one, has such a path.
abbrev pub replaces_source : Option (List ℕ) → Option (List ℕ) → Option PlacesView
    → Option (List ℕ) → Bool
replaces_source file root places None = false
replaces_source file root places (Some path) = is_source file root places path

-- ---- by the file alone

-- A file that it names lies at this path.
abbrev pub names_at : List ℕ → Option (List ℕ) → List ℕ → Option File → Bool
names_at file root path None = false
names_at file root path (Some source) = bytes_eq (source_path file root source.name) path

-- No file that a text of a debug file names lies at this path; a text with a fault names none.
abbrev pub Spares : List ℕ → Option (List ℕ) → List ℕ → List ℕ → Type 0
Spares file root path text = MatchResult (info_of text)
    (λ info. list_any (names_at file root path) info.files ≡ false) (λ why. ⊤)

-- One of them does.
abbrev pub Names : List ℕ → Option (List ℕ) → List ℕ → List ℕ → Type 0
Names file root path text = MatchResult (info_of text)
    (λ info. list_any (names_at file root path) info.files ≡ true) (λ why. ⊥)

-- The debug file is not read, or its text spares the path.
abbrev pub SparesPath : List ℕ → Option (List ℕ) → List ℕ → Type 0
SparesPath file root path = ((why : Refusal) × EndsReading why)
    ⊎ ((text : List ℕ) × Spares file root path text)

-- The text of some debug file names one there.
abbrev pub NamesPath : List ℕ → Option (List ℕ) → List ℕ → Type 0
NamesPath file root path = (text : List ℕ) × Names file root path text

-- The path of some name.
abbrev pub IsPathOf : List ℕ → Option (List ℕ) → List ℕ → Type 0
IsPathOf file root path = (name : List ℕ) × (path ≡ source_path file root name)
