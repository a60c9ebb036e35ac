-- What `cmp` has done. Source: mos65. No clause can say what two files have.
use Rattle.std.specs.Prelude.{◌≡◌, ◌≢◌, ◌⊎◌, ℕ, ◌==◌, if◌then◌else◌, Bool, true, false, List, [], ◌++◌, Option, Some, string_bytes}
use Rattle.arguments.specs.Streams.{Tells, TellsFront}
use Rattle.arguments.specs.Words.{Fits}
use Rattle.clap.specs.Words.{Text}
use Rattle.image_files.specs.Files.{HasNoImage, IsOfFile}
use Rattle.word_cmp.specs.AlignedRows.{rows_text}
use Rattle.word_cmp.specs.Alignment.{IsAlignment}
use Rattle.word_cmp.specs.Differences.{differences}
use Rattle.word_cmp.specs.DifferenceRows.{SideView, rows_of, side_of}
use Rattle.word_cmp.specs.DumpRows.{dump_text}
use Rattle.word_cmp.specs.Parts.{parts_of}
use Rattle.word_cmp.specs.declared.alignment.Row.{Row}
use Rattle.tape_words.specs.Answers.{EndsLine}
use Rattle.tape_words.specs.Asked.{CmpAsked, cmp_asked}
use Rattle.tape_words.specs.CommandLines.{cmp}
use Rattle.tape_words.specs.declared.answer.Answer.{Answer}

-- The rows of some alignment of all parts of two sides.
pub record IsAlignedText (one other : SideView) (said : List ℕ) : Type 0 where
  pub rows : List Row
  pub are : IsAlignment (parts_of one) (parts_of other) rows
  pub text : said ≡ rows_text one other rows

-- The rows of two sides that differ: those of an alignment; or of all addresses at which they
-- differ, with what is said last. The latter end with a line's end.
abbrev pub IsTextOf : Bool → SideView → SideView → List ℕ → Type 0
IsTextOf true one other said = IsAlignedText one other said
IsTextOf false one other said
    = (said ≡ rows_of one other (differences one.image other.image) ++ dump_text one other)
    × EndsLine said

-- What is said of two sides: nothing if their images are equal, and rows if they are not.
abbrev pub IsSaidOf : Bool → SideView → SideView → Bool → List ℕ → Type 0
IsSaidOf align one other true said = (one.image ≡ other.image) × (said ≡ [])
IsSaidOf align one other false said = (one.image ≢ other.image) × IsTextOf align one other said

abbrev pub IsAnswerOf : Bool → SideView → SideView → Answer → Type 0
IsAnswerOf align one other answer
    = IsSaidOf align one other answer.is_right (string_bytes answer.text)

-- A text can be said of the images of some two files, by what is asked for.
pub record IsSaid (asked : CmpAsked) (is_same : Bool) (said : List ℕ) : Type 0 where
  pub one : List (Option ℕ)
  pub other : List (Option ℕ)
  pub one_is : IsOfFile asked.form one
  pub other_is : IsOfFile asked.other_form other
  pub about : IsSaidOf asked.align (side_of asked.tape one asked.profile)
      (side_of asked.other other asked.profile) is_same said

-- Some file is no image in the form of the one side or of the other.
abbrev pub HasNoSide : CmpAsked → Type 0
HasNoSide asked = HasNoImage asked.form ⊎ HasNoImage asked.other_form

-- The words fit, each value is one that its name can have, and a fact holds of what they ask for.
abbrev pub Asks : List Text → (CmpAsked → Type 0) → Type 0
Asks words P = (asked : CmpAsked) × Fits cmp words × (cmp_asked words ≡ Some asked) × P asked

-- The words fit, and what they ask for was written, with the meaning of the status.
abbrev pub TellsAsked : List Text → Bool → Option (List ℕ) → Option (List ℕ) → Type 0
TellsAsked words is_same held now = (asked : CmpAsked) × Fits cmp words
    × (cmp_asked words ≡ Some asked) × Tells (IsSaid asked) is_same held now

-- The words fit, and a beginning of what they ask for was written.
abbrev pub TellsAskedFront : List Text → Option (List ℕ) → Option (List ℕ) → Type 0
TellsAskedFront words held now = (asked : CmpAsked) × Fits cmp words
    × (cmp_asked words ≡ Some asked) × TellsFront (IsSaid asked) held now

-- The exit status for that of a file that is not read: 2 for one that is no image.
abbrev pub cmp_status : ℕ → ℕ
cmp_status status = if status == 1 then 2 else status
