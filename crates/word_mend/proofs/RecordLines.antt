-- The lines of a text of records, one after another, and what its end is.
use Rattle.std.proofs.Common.{◌≡◌, ◌∙◌, ℕ, false, List, [], ◌∷◌, ◌++◌, length, Option, Result, Ok, Err, OnOk, is_ok, if◌then◌else◌, refl, ap, arith, codes, append-nil}
use Rattle.std.specs.List.{flat_map}
use Rattle.model.specs.TextLines.{lines_from, lines_of}
use Rattle.image_files.specs.Looks.{lacks_end}
use Rattle.image_reader.specs.Texts.{text_image}
use Rattle.image_reader.specs.declared.fault.RecordFault.{RecordFault}
use Rattle.image_reader.specs.declared.fault.RecordFaultKind.TheVariants.{NoEnd}
use Rattle.image_reader.specs.declared.form.TextForm.{TextForm}
use Rattle.image_reader.specs.declared.form.TextForm.TheVariants.{Hex, SRecord}
use Rattle.image_writer.specs.ImageTexts.{end_text}
use Rattle.hex.specs.Hex.{encode_with}
use Rattle.word_mend.specs.RecordMending.{ended, right_line, sums_from}
use Rattle.word_mend.specs.declared.checksums.WrongSum.{WrongSum}

no_lines : (text : List ℕ) → length text ≡ 0 → lines_of text ≡ []
unfolding lines_from
no_lines [] h = refl
no_lines (b ∷ text) h = absurd (omega (arith, h))

-- ---- each line

pub lines_end : (form : TextForm) (out rest : List ℕ) → length rest ≡ 0 → out ++ flat_map (right_line form) (lines_of rest) ≡ out
lines_end form out rest h = ap (λ (ls : List (List ℕ)). out ++ flat_map (right_line form) ls) (no_lines rest h) ∙ append-nil out

pub sums_end : (form : TextForm) (number : ℕ) (sums : List WrongSum) (rest : List ℕ) → length rest ≡ 0 → sums ++ sums_from form number (lines_of rest) ≡ sums
sums_end form number sums rest h = ap (λ (ls : List (List ℕ)). sums ++ sums_from form number ls) (no_lines rest h) ∙ append-nil sums

-- ---- the end

pub hex_end : codes ":00000001FF\r\n" ≡ end_text Hex
unfolding encode_with
hex_end = refl

pub s_end : codes "S9030000FC\r\n" ≡ end_text SRecord
unfolding encode_with
s_end = refl

pub end_put : {X E : Type 0} (result : Result X E) (old new text end : List ℕ) → new ≡ (if is_ok result then old ++ text else old) → text ≡ end
    → OnOk result (new ≡ old ++ end)
end_put (Ok done) old new text end is same = is ∙ ap (λ (t : List ℕ). old ++ t) same
end_put (Err fault) old new text end is same = tt

-- a text that has an image, or another fault than that its end is missing, stays as it is
pub whole_text : (form : TextForm) (text : List ℕ) (cells : List (Option ℕ)) → text_image form text ≡ Ok cells → ended form text ≡ text
whole_text form text cells is = rw is refl

pub other_fault : (form : TextForm) (text : List ℕ) (fault : RecordFault) → text_image form text ≡ Err fault → lacks_end fault.kind ≡ false
    → ended form text ≡ text
other_fault form text fault is other = rw (is, other) refl

pub endless_text : (form : TextForm) (text : List ℕ) (fault : RecordFault) → text_image form text ≡ Err fault → fault.kind ≡ NoEnd
    → ended form text ≡ text ++ end_text form
endless_text form text fault is end = rw (is, end) refl
