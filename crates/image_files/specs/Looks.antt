-- Which texts that are given as sources begin with a record of an image. As a source a tape would be
-- comments. Source: mos65.
use Rattle.std.specs.Prelude.{◌≡◌, ◌==◌, ◌||◌, nat_le, not, ⊤, ℕ, Bool, true, false, if◌then◌else◌, List, Option, Some, None, Result, Ok, Err, take}
use Rattle.std.specs.List.{list_all, prefix_len}
use Rattle.arguments.specs.declared.load_fault.LoadFault.{LoadFault}
use Rattle.arguments.specs.declared.load_fault.LoadFault.TheVariants.{LooksLikeHex, LooksLikeSRecords, LooksLikeTape, Refused}
use Rattle.arguments.specs.declared.refusal.Refusal.TheVariants.{OutOfMemory}
use Rattle.image_files.specs.Forms.{form_of, from_record, front_bytes}
use Rattle.image_reader.specs.Texts.{text_image}
use Rattle.image_reader.specs.declared.fault.RecordFault.{RecordFault}
use Rattle.image_reader.specs.declared.fault.RecordFaultKind.{RecordFaultKind}
use Rattle.image_reader.specs.declared.fault.RecordFaultKind.TheVariants.{NoEnd}
use Rattle.image_reader.specs.declared.form.Form.{Form}
use Rattle.image_reader.specs.declared.form.Form.TheVariants.{Text}
use Rattle.image_files.specs.declared.form.OtherText.{OtherText}
use Rattle.image_reader.specs.declared.form.TextForm.{TextForm}
use Rattle.image_reader.specs.declared.form.TextForm.TheVariants.{Hex, SRecord}
use Rattle.papertape.specs.Hint.{BeginsTape, is_inside}

-- No control byte but a tab and line ends stands in a text.
abbrev pub is_written : ℕ → Bool
is_written b = nat_le 32 b || (b == 9) || (b == 10) || (b == 13)

-- Bytes that no source begins with: a control byte stands among the first 64.
abbrev pub looks_raw : List ℕ → Bool
looks_raw bytes = not (list_all is_written (front_bytes bytes))

-- Bytes whose first `;` begins a right record of a tape: where text comes before it, they are what the
-- terminal of a KIM-1 showed while a tape was written.
abbrev pub IsCaptured : List ℕ → Type 0
IsCaptured bytes = BeginsTape (from_record bytes)

-- The first line of a text, without its end.
unfoldable pub first_line : List ℕ → List ℕ
first_line text = take (prefix_len is_inside text) text

abbrev pub lacks_end : RecordFaultKind → Bool
lacks_end NoEnd = true
lacks_end kind = false

-- Whether a text of records may go on: it denotes an image, or only its end is missing.
abbrev pub goes_on : Result (List (Option ℕ)) RecordFault → Bool
goes_on (Ok image) = true
goes_on (Err fault) = lacks_end fault.kind

-- The form of a line, if the line is a whole and right record of a text of that form.
abbrev pub begun_as : Form → List ℕ → Option TextForm
begun_as (Text form) line = if goes_on (text_image form line) then Some form else None
begun_as form line = None

abbrev pub begun_in : Result Form OtherText → List ℕ → Option TextForm
begun_in (Ok form) line = begun_as form line
begun_in (Err like) line = None

-- The form of records with which a text begins.
unfoldable pub records_begun : List ℕ → Option TextForm
records_begun text = begun_in (form_of (first_line text)) (first_line text)

-- A text begins with no record of an image.
abbrev pub IsSource : List ℕ → Type 0
IsSource text = (BeginsTape text → ⊥) × (records_begun text ≡ None)

-- Why a text is refused as a source. Memory may run out at any text.
abbrev pub EndsLooks : List ℕ → LoadFault → Type 0
EndsLooks text LooksLikeTape = BeginsTape text
EndsLooks text LooksLikeHex = records_begun text ≡ Some Hex
EndsLooks text LooksLikeSRecords = records_begun text ≡ Some SRecord
EndsLooks text (Refused OutOfMemory) = ⊤
EndsLooks text fault = ⊥
