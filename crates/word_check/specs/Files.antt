-- What `check` says of files, one after another. Source: mos65.
use Rattle.std.specs.Prelude.{◌≡◌, ◌≤◌, ◌⊎◌, ⊤, ℕ, max, false, if◌then◌else◌, List, [], ◌∷◌, ◌++◌, Option, Some, None}
use Rattle.std.specs.Io.KnownBytes.{Appends}
use Rattle.std.specs.List.{flat_map}
use Rattle.arguments.specs.Statuses.{status_of_load}
use Rattle.arguments.specs.Words.{Fits}
use Rattle.arguments.specs.declared.load_fault.LoadFault.{LoadFault}
use Rattle.word_check.specs.CommandLine.{CheckAsked, check, check_asked}
use Rattle.word_check.specs.Found.{EndsFile, HasMap, IsFound, has_slips}
use Rattle.word_check.specs.declared.text.CheckedText.{CheckedText}
use Rattle.clap.specs.Words.{Text}
use Rattle.model.specs.State.{is_map}
use Rattle.model.specs.Writers.{AppendsFront}

-- ---- one file

-- What is written of a file, and the status that it has by itself.
pub record Outcome : Type 0 where
  pub said : List ℕ
  pub status : ℕ

-- Some source was checked: its text is written, with the status 1 if it counts, and 0 if not.
pub record IsChecked (asked : CheckAsked) (file : Text) (outcome : Outcome) : Type 0 where
  pub found : CheckedText
  pub is : IsFound asked file found
  pub text : outcome.said ≡ found.text.items
  pub status_is : outcome.status ≡ (if has_slips asked.strict found then 1 else 0)

-- The source was not checked: nothing is written, and the status is that of why.
pub record IsKeptBack (outcome : Outcome) : Type 0 where
  pub why : LoadFault
  pub ends : EndsFile why
  pub text : outcome.said ≡ []
  pub status_is : outcome.status ≡ status_of_load why

abbrev pub IsOutcome : CheckAsked → Text → Outcome → Type 0
IsOutcome asked file outcome = IsChecked asked file outcome ⊎ IsKeptBack outcome

-- A file was tried: what is written of it was written, and where nothing is, the output is left
-- alone, `Unwritten`.
pub record IsTried (asked : CheckAsked) (file : Text) (held now : Option (List ℕ))
    (Unwritten : Type 0) (status : ℕ) : Type 0 where
  pub said : List ℕ
  pub is : IsOutcome asked file (record { said = said; status = status })
  pub written : Appends held now said
  pub unwritten : 2 ≤ status → Unwritten

-- The output failed, after a beginning of what is written of a file.
pub record IsBegun (asked : CheckAsked) (file : Text) (held now : Option (List ℕ)) : Type 0 where
  pub outcome : Outcome
  pub is : IsOutcome asked file outcome
  pub written : AppendsFront held now outcome.said

-- ---- all files

-- Each file has its outcome, in their order.
abbrev pub AreOutcomes : CheckAsked → List Text → List Outcome → Type 0
AreOutcomes asked [] [] = ⊤
AreOutcomes asked (file ∷ files) (outcome ∷ outcomes)
    = IsOutcome asked file outcome × AreOutcomes asked files outcomes
AreOutcomes asked files outcomes = ⊥

-- What is written of files, in their order.
abbrev pub said_of : List Outcome → List ℕ
said_of outcomes = flat_map (λ outcome. outcome.said) outcomes

-- The highest status.
abbrev pub worst_of : List Outcome → ℕ
worst_of [] = 0
worst_of (outcome ∷ outcomes) = max outcome.status (worst_of outcomes)

-- No source was checked.
abbrev pub AreKeptBack : List Outcome → Type 0
AreKeptBack [] = ⊤
AreKeptBack (outcome ∷ outcomes) = (2 ≤ outcome.status) × AreKeptBack outcomes

-- All files were tried: what is written of them stands in the output, one after another, and the
-- status is the highest of theirs. If no source was checked, the output is left alone, `Unwritten`.
pub record AreTried (asked : CheckAsked) (files : List Text) (held now : Option (List ℕ))
    (Unwritten : Type 0) (status : ℕ) : Type 0 where
  pub outcomes : List Outcome
  pub are : AreOutcomes asked files outcomes
  pub worst : status ≡ worst_of outcomes
  pub written : Appends held now (said_of outcomes)
  pub unwritten : AreKeptBack outcomes → Unwritten

-- The output failed at one of the files: the output has a beginning of what is written of the files
-- up to this one.
pub record AreBegun (asked : CheckAsked) (files : List Text) (held now : Option (List ℕ))
    : Type 0 where
  pub tried : List Text
  pub left : List Text
  pub all : files ≡ tried ++ left
  pub outcomes : List Outcome
  pub are : AreOutcomes asked tried outcomes
  pub written : AppendsFront held now (said_of outcomes)

-- ---- the words

-- All files of the words were tried on the map of the words.
abbrev pub IsDone : CheckAsked → Option (List ℕ) → Option (List ℕ) → Type 0 → ℕ → Type 0
IsDone asked held now Unwritten status
    = HasMap asked × AreTried asked asked.sources held now Unwritten status

-- The output failed at one of them.
abbrev pub IsCutOff : CheckAsked → Option (List ℕ) → Option (List ℕ) → Type 0
IsCutOff asked held now = HasMap asked × AreBegun asked asked.sources held now

-- The port makes no map, so no file is read.
abbrev pub HasNoMap : CheckAsked → Type 0
HasNoMap asked = is_map None asked.port ≡ false

-- The words fit, each value is one that its name can have, and a fact holds of what they ask for.
abbrev pub Asks : List Text → (CheckAsked → Type 0) → Type 0
Asks words P = (asked : CheckAsked) × Fits check words × (check_asked words ≡ Some asked) × P asked
