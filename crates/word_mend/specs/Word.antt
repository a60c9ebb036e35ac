-- What `mend` has done. Source: mos65. No clause can say which text a file has, nor that OUT has
-- the mended text.
use Rattle.std.specs.Prelude.{◌≡◌, ◌⊎◌, ⊤, ℕ, Bool, true, false, List, Option, Some, None, Ok, Err, string_bytes}
use Rattle.arguments.specs.Words.{Fits}
use Rattle.arguments.specs.declared.refusal.Refusal.{Refusal}
use Rattle.arguments.specs.declared.refusal.Refusal.TheVariants.{Tape, OutOfMemory, Read, Write, WriteFile}
use Rattle.clap.specs.Words.{Text}
use Rattle.image_reader.specs.Texts.{text_image}
use Rattle.image_reader.specs.declared.fault.RecordFault.{RecordFault}
use Rattle.image_reader.specs.declared.form.TextForm.{TextForm}
use Rattle.model.specs.Tape.{FirstFault, TapeDenotes}
use Rattle.model.specs.declared.tape.TapeFault.{TapeFault}
use Rattle.model.specs.declared.tape.TapeFaultKind.{TapeFaultKind}
use Rattle.word_mend.specs.Captures.{IsCapture, capture_text, captured_tape, moved_capture}
use Rattle.word_mend.specs.Mending.{HasRecords, IsMendedText, mended_text}
use Rattle.word_mend.specs.RecordMending.{AreMendedLines, mended_lines, text_form}
use Rattle.word_mend.specs.RecordReports.{IsRecordsReport, record_line}
use Rattle.word_mend.specs.Reported.{faults_text, moved}
use Rattle.tape_words.specs.Asked.{MendAsked, mend_asked}
use Rattle.tape_words.specs.CommandLines.{mend}
use Rattle.tape_words.specs.Files.{too_long_file}
use Rattle.tape_words.specs.Meanings.{fault_line}
use Rattle.tape_words.specs.declared.answer.Answer.{Answer}
use Rattle.word_mend.specs.declared.wording.TheConstants.{NOTHING_WAS_WRONG}

-- What is said of a text that had this first fault, or none.
abbrev pub IsReport : List ℕ → Option TapeFault → List ℕ → Type 0
IsReport text None said = said ≡ NOTHING_WAS_WRONG.now
IsReport text (Some fault) said = said ≡ faults_text text

-- What is said of a tape that is mended.
pub record IsMended (said : List ℕ) : Type 0 where
  pub text : List ℕ
  pub form : text_form text ≡ None
  pub out : List ℕ
  pub image : List (Option ℕ)
  pub fault : Option TapeFault
  pub mended : IsMendedText text out fault
  pub denotes : TapeDenotes out image
  pub records : HasRecords text image
  pub report : IsReport text fault said

-- What is said of a tape that is not: the first fault that its mended text still has, where it
-- stands in the tape.
pub record IsNotMended (asked : MendAsked) (said : List ℕ) : Type 0 where
  pub text : List ℕ
  pub form : text_form text ≡ None
  pub kind : TapeFaultKind
  pub offset : ℕ
  pub first : FirstFault (mended_text text) kind offset
  pub told : said ≡ fault_line asked.tape text (moved text kind offset)

-- What is said of a capture of which a tape is made.
pub record IsOfCapture (said : List ℕ) : Type 0 where
  pub text : List ℕ
  pub form : text_form text ≡ None
  pub out : List ℕ
  pub image : List (Option ℕ)
  pub made : out ≡ captured_tape text
  pub denotes : TapeDenotes out image
  pub capture : IsCapture text image
  pub report : said ≡ capture_text text

-- What is said of a text that seems to be a capture, and is none: the first fault of the tape that
-- would be made of it, where it stands in the text.
pub record IsNoCapture (asked : MendAsked) (said : List ℕ) : Type 0 where
  pub text : List ℕ
  pub form : text_form text ≡ None
  pub kind : TapeFaultKind
  pub offset : ℕ
  pub first : FirstFault (captured_tape text) kind offset
  pub told : said ≡ fault_line asked.tape text (moved_capture text kind offset)

-- What is said of Intel HEX or of S-records that are mended.
pub record AreMended (said : List ℕ) : Type 0 where
  pub text : List ℕ
  pub form : TextForm
  pub told_form : text_form text ≡ Some form
  pub out : List ℕ
  pub image : List (Option ℕ)
  pub fault : Option RecordFault
  pub mended : AreMendedLines form text out fault
  pub denotes : text_image form out ≡ Ok image
  pub report : IsRecordsReport form text fault said

-- What is said of those that are not: the first fault that their mended text still has.
pub record AreNotMended (asked : MendAsked) (said : List ℕ) : Type 0 where
  pub text : List ℕ
  pub form : TextForm
  pub told_form : text_form text ≡ Some form
  pub fault : RecordFault
  pub first : text_image form (mended_lines form text) ≡ Err fault
  pub told : said ≡ record_line asked.tape fault

abbrev pub IsSaidOfMended : List ℕ → Type 0
IsSaidOfMended said = IsMended said ⊎ (IsOfCapture said ⊎ AreMended said)

abbrev pub IsSaid : MendAsked → Bool → List ℕ → Type 0
IsSaid asked true said = IsSaidOfMended said
IsSaid asked false said = IsNotMended asked said
    ⊎ (IsNoCapture asked said ⊎ AreNotMended asked said)

abbrev pub IsAbout : MendAsked → Answer → Type 0
IsAbout asked answer = IsSaid asked answer.is_right (string_bytes answer.text)

-- Why there is no answer: the file is too long.
abbrev pub EndsMend : Refusal → Type 0
EndsMend (Tape fault) = fault ≡ too_long_file
EndsMend OutOfMemory = ⊤
EndsMend (Read why) = ⊤
EndsMend Write = ⊤
EndsMend (WriteFile why) = ⊤
EndsMend refusal = ⊥

-- The words fit, the files have two names, and a fact holds of what is asked for.
abbrev pub Asks : List Text → (MendAsked → Type 0) → Type 0
Asks words P = (asked : MendAsked) × Fits mend words × (mend_asked words ≡ Some asked) × P asked
