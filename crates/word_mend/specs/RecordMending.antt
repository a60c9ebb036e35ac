-- What `mend` makes of Intel HEX and of S-records. Source: mos65, over the records.
use Rattle.std.specs.Prelude.{◌≡◌, ℕ, ◌+◌, ◌-◌, Bool, true, false, if◌then◌else◌, List, [], ◌∷◌, ◌++◌, drop, length, slice_index, take, Option, None, Some, Result, Ok, Err}
use Rattle.std.specs.List.{flat_map}
use Rattle.hex.specs.Hex.{encode_upper}
use Rattle.image_files.specs.Bytes.{form_by}
use Rattle.image_files.specs.Looks.{lacks_end}
use Rattle.image_files.specs.declared.form.OtherText.{OtherText}
use Rattle.image_reader.specs.Progress.{start}
use Rattle.image_reader.specs.Texts.{form_line, text_image}
use Rattle.image_reader.specs.declared.fault.LineFault.{LineFault}
use Rattle.image_reader.specs.declared.fault.RecordFault.{RecordFault}
use Rattle.image_reader.specs.declared.fault.RecordFaultKind.{RecordFaultKind}
use Rattle.image_reader.specs.declared.fault.RecordFaultKind.TheVariants.{BadChecksum}
use Rattle.image_reader.specs.declared.form.Form.{Form}
use Rattle.image_reader.specs.declared.form.Form.TheVariants.{Text}
use Rattle.image_reader.specs.declared.form.TextForm.{TextForm}
use Rattle.image_reader.specs.declared.form.TextForm.TheVariants.{Hex, SRecord}
use Rattle.image_writer.specs.ImageTexts.{checksum, end_text}
use Rattle.model.specs.Tape.{bytes_of_digits}
use Rattle.model.specs.TextLines.{lines_of}
use Rattle.word_mend.specs.declared.checksums.Checksums.{Checksums}
use Rattle.word_mend.specs.declared.checksums.WrongSum.{WrongSum}

-- The form of records that the first record of a text tells, if it is no tape.
abbrev pub told_form : Result Form OtherText → Option TextForm
told_form (Ok (Text form)) = Some form
told_form told = None

abbrev pub text_form : List ℕ → Option TextForm
text_form text = told_form (form_by None text)

-- ---- one record

-- What the bytes of a record sum to, modulo 256.
abbrev pub total_of : TextForm → ℕ
total_of Hex = 0
total_of SRecord = 255

-- How many bytes of a line come before the digits: the mark, and the type of an S-record.
abbrev pub mark_len : TextForm → ℕ
mark_len Hex = 1
mark_len SRecord = 2

abbrev pub is_bad_checksum : RecordFaultKind → Bool
is_bad_checksum BadChecksum = true
is_bad_checksum kind = false

-- The checksum alone is wrong: the digits are right, and as many as they say.
abbrev pub is_sum_fault : {A : Type 0} → Result A LineFault → Bool
is_sum_fault (Ok x) = false
is_sum_fault (Err fault) = is_bad_checksum fault.kind

-- The checksum of some bytes, which is the last of them, and the right one.
abbrev pub checksums_of : ℕ → List ℕ → Checksums
checksums_of total bytes = record {
  was = slice_index bytes (length bytes - 1);
  right = checksum total (take (length bytes - 1) bytes);
}

abbrev pub checksums_if : Bool → ℕ → List ℕ → Option Checksums
checksums_if wrong total bytes = if wrong then Some (checksums_of total bytes) else None

-- The checksum of a line and the right one, if that is the fault of the line.
unfoldable pub wrong_sum : TextForm → List ℕ → Option Checksums
wrong_sum form line = checksums_if (is_sum_fault (form_line form (start form) line))
    (total_of form) (bytes_of_digits (drop (mark_len form) line))

-- A line with the right checksum in its last two digits; all else stands as it is.
abbrev pub with_checksum : List ℕ → Option Checksums → List ℕ
with_checksum line None = line
with_checksum line (Some sums) = take (length line - 2) line ++ encode_upper (sums.right ∷ [])

-- A mended line has as many bytes as the line, and all but the last two of them.
pub record KeepsDigits (line mended : List ℕ) : Type 0 where
  pub sizes : length mended ≡ length line
  pub digits : take (length line - 2) mended ≡ take (length line - 2) line

-- ---- a text

-- A line with its right checksum, then CR LF.
abbrev pub right_line : TextForm → List ℕ → List ℕ
right_line form line = with_checksum line (wrong_sum form line) ++ 13 ∷ 10 ∷ []

unfoldable pub right_lines : TextForm → List ℕ → List ℕ
right_lines form text = flat_map (right_line form) (lines_of text)

-- Nothing but the end is missing.
abbrev pub is_endless : Result (List (Option ℕ)) RecordFault → Bool
is_endless (Ok cells) = false
is_endless (Err fault) = lacks_end fault.kind

-- The end record comes behind a text that lacks one.
abbrev pub ended : TextForm → List ℕ → List ℕ
ended form text = if is_endless (text_image form text) then text ++ end_text form else text

-- The mended text: the lines with right checksums, and an end record.
unfoldable pub mended_lines : TextForm → List ℕ → List ℕ
mended_lines form text = ended form (right_lines form text)

-- What `mend` writes: a right text as it is; otherwise the mended text, where the text had a fault.
abbrev pub AreMendedLines : TextForm → List ℕ → List ℕ → Option RecordFault → Type 0
AreMendedLines form text out None = out ≡ text
AreMendedLines form text out (Some fault) =
    (out ≡ mended_lines form text) × (text_image form text ≡ Err fault)

-- ---- what was wrong

-- A wrong checksum, with the number of its line.
abbrev pub sum_at : ℕ → Option Checksums → List WrongSum
sum_at line None = []
sum_at line (Some sums) = record { line = line; sums = sums } ∷ []

abbrev pub sums_from : TextForm → ℕ → List (List ℕ) → List WrongSum
sums_from form number [] = []
sums_from form number (line ∷ lines)
    = sum_at number (wrong_sum form line) ++ sums_from form (number + 1) lines

-- The wrong checksums of a text, where no fault of it is another.
unfoldable pub wrong_sums : TextForm → List ℕ → List WrongSum
wrong_sums form text = sums_from form 1 (lines_of text)

-- Whether the end record of a text is missing.
abbrev pub lacked_end : TextForm → List ℕ → Bool
lacked_end form text = is_endless (text_image form (right_lines form text))
