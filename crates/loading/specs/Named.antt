-- What is loaded where a file of names may be named, and why nothing is. Source: mos65.
use Rattle.std.specs.Prelude.{◌≡◌, ℕ, List, [], Option, None, Some}
use Rattle.assembler.specs.Assembly.{AssemblyView}
use Rattle.arguments.specs.Asked.{FileAsked, map_of}
use Rattle.arguments.specs.FaultLines.{file_line, load_text}
use Rattle.arguments.specs.Statuses.{status_of, status_of_load}
use Rattle.arguments.specs.declared.file_options.FileForm.TheVariants.{Source}
use Rattle.loading.specs.Loads.{AreImageNames, EndsLoad, EndsNames, IsLoaded}
use Rattle.loading.specs.Told.{Heard, Tells}
use Rattle.loading.specs.declared.named.NamedFault.{NamedFault}
use Rattle.model.specs.declared.instruction.Profile.{Profile}
use Rattle.names_files.specs.NamesFile.{names_file}
use Rattle.loading.specs.declared.named.NamedFault.TheVariants.{HasSource, OfFile, OfNames}
use Rattle.loading.specs.declared.named.TheConstants.{HAS_NAMES}

-- How many lines of some file of names gave no name.
abbrev pub IsLost : Profile → ℕ → Type 0
IsLost profile lost = (file : List ℕ) × (lost ≡ (names_file profile file).lost)

-- None are lost where no file of names is named.
abbrev pub MayLose : Profile → Option (List ℕ) → ℕ → Type 0
MayLose profile None lost = lost ≡ 0
MayLose profile (Some path) lost = IsLost profile lost

-- Names stand for an image that has no source: there are no lines.
abbrev pub named_image : List (Option ℕ) → AssemblyView → AssemblyView
named_image image names
    = record names { image = image; source = []; places = []; instructions = [] }

-- Without a file of names, what is loaded is that of the file. With one, the file is an image
-- without a source, and the names are those of some file of names.
abbrev pub IsNamed : FileAsked → Option (List ℕ) → Option ℕ → List (Option ℕ)
    → Option AssemblyView → Type 0
IsNamed asked None fill image assembly = IsLoaded asked fill image assembly
IsNamed asked (Some path) fill image None = ⊥
IsNamed asked (Some path) fill image (Some a) = IsLoaded asked fill image None
    × ((names : AssemblyView) × AreImageNames (map_of asked) names × (a ≡ named_image image names))

-- Why nothing is loaded: the file is not, the file of names is not read, or the file is a source,
-- which has its own names.
abbrev pub EndsNamed : FileAsked → Option (List ℕ) → NamedFault → Type 0
EndsNamed asked symbols (OfFile fault) = EndsLoad asked fault
EndsNamed asked (Some path) (OfNames fault) = EndsNames asked fault
EndsNamed asked None (OfNames fault) = ⊥
EndsNamed asked (Some path) HasSource = asked.form ≡ Source
EndsNamed asked None HasSource = ⊥

-- ---- what is told of it

abbrev pub status_of_named : NamedFault → ℕ
status_of_named (OfFile fault) = status_of_load fault
status_of_named (OfNames fault) = status_of fault
status_of_named HasSource = 2

abbrev pub names_text : NamedFault → List ℕ → List ℕ → List ℕ
names_text (OfFile fault) file names = load_text fault file
names_text (OfNames fault) file names = file_line names fault
names_text HasSource file names = HAS_NAMES.now

abbrev pub named_text : NamedFault → List ℕ → Option (List ℕ) → List ℕ
named_text fault file None = names_text fault file []
named_text fault file (Some names) = names_text fault file names

-- Nothing was loaded, the error stream got why, and the other streams were left alone, `Alone`.
abbrev pub IsUnnamed : FileAsked → Option (List ℕ) → Heard → ℕ → Type 0 → Type 0
IsUnnamed asked symbols heard status Alone = (fault : NamedFault) × EndsNamed asked symbols fault
    × (status ≡ status_of_named fault) × Tells heard (named_text fault asked.file symbols) × Alone
