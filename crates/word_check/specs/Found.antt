-- What `check` finds of a source, and what it writes of it. Source: mos65.
use Rattle.std.specs.Prelude.{◌≡◌, ⊤, ℕ, ◌==◌, ◌&&◌, ◌||◌, Bool, not, true, List, None, length}
use Rattle.arguments.specs.Shown.{shown_name}
use Rattle.arguments.specs.declared.load_fault.LoadFault.{LoadFault}
use Rattle.arguments.specs.declared.load_fault.LoadFault.TheVariants.{LooksLikeCapture, LooksLikeHex, LooksLikeRaw, LooksLikeSRecords, LooksLikeTape, Refused}
use Rattle.arguments.specs.declared.refusal.Refusal.TheVariants.{OutOfMemory, Read}
use Rattle.word_check.specs.Checked.{IsCheckedText}
use Rattle.word_check.specs.CommandLine.{CheckAsked, map_asked}
use Rattle.word_check.specs.declared.text.CheckedText.{CheckedText}
use Rattle.clap.specs.Words.{Text}
use Rattle.clean_source.specs.Cleaned.{cleaned}
use Rattle.image_files.specs.Looks.{EndsLooks, IsCaptured, looks_raw}
use Rattle.fault_notes.specs.Given.{told_faults_of}
use Rattle.model.specs.State.{is_map}
use Rattle.warnings.specs.Warnings.{warnings_of}

-- The port that is asked for makes a map.
abbrev pub HasMap : CheckAsked → Type 0
HasMap asked = is_map None asked.port ≡ true

-- The text of all faults or warnings of some source on the map that is asked for, under the name of
-- a file as it is shown, and which of these it has. The source is clean: it is one that is read in
-- the place of a file's bytes. No clause can say which bytes a file has.
pub record IsFound (asked : CheckAsked) (file : Text) (found : CheckedText) : Type 0 where
  pub source : List ℕ
  pub clean : cleaned source ≡ source
  pub told : IsCheckedText (shown_name file) source asked.profile
      (told_faults_of (map_asked asked) source) (warnings_of (map_asked asked) source) found.text.items
  pub faulty : found.is_faulty ≡ not (length (told_faults_of (map_asked asked) source) == 0)
  pub warned : found.is_warned ≡ ((length (told_faults_of (map_asked asked) source) == 0)
      && not (length (warnings_of (map_asked asked) source) == 0))

-- Whether a text counts for the exit status: it has a fault, or a warning where these count.
abbrev pub has_slips : Bool → CheckedText → Bool
has_slips strict found = found.is_faulty || (strict && found.is_warned)

-- Some text is refused so as a source. No clause can say which text a file has.
abbrev pub HasImage : LoadFault → Type 0
HasImage fault = (text : List ℕ) × EndsLooks text fault

-- Why the source of a file was not checked: the file begins with a record of an image, or as a raw
-- image, or is a capture of a terminal, or cannot be read. Memory may run out at any file.
abbrev pub EndsFile : LoadFault → Type 0
EndsFile LooksLikeTape = HasImage LooksLikeTape
EndsFile LooksLikeHex = HasImage LooksLikeHex
EndsFile LooksLikeSRecords = HasImage LooksLikeSRecords
EndsFile LooksLikeRaw = (bytes : List ℕ) × (looks_raw bytes ≡ true)
EndsFile LooksLikeCapture = (bytes : List ℕ) × IsCaptured bytes
EndsFile (Refused OutOfMemory) = ⊤
EndsFile (Refused (Read why)) = ⊤
EndsFile fault = ⊥
