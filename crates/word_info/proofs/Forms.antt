-- What the form of some bytes says of what is told of them.
use Rattle.std.proofs.Common.{◌≡◌, ◌⊎◌, ℕ, Bool, true, false, List, ◌++◌, Option, Some, None, Result, Ok, Err, inl, inr, refl, sym, ap, subst, ◌∙◌}
use Rattle.arguments.specs.declared.refusal.Refusal.TheVariants.{OutOfMemory}
use Rattle.image_files.specs.Bytes.{IsImage, IsNoImage, form_by}
use Rattle.image_files.specs.declared.refusal.ImageRefusal.TheVariants as why
use Rattle.image_files.specs.declared.refusal.NoImage.{NoImage}
use Rattle.image_reader.specs.EndRecords.{as_read}
use Rattle.image_reader.specs.declared.form.Form.{Form}
use Rattle.image_reader.specs.declared.form.Form.TheVariants.{Tape, Text, Raw, Prg}
use Rattle.image_files.specs.declared.form.OtherText.{OtherText}
use Rattle.model.specs.Tape.{TapeDenotes}
use Rattle.word_info.specs.Facts.{data_records}
use Rattle.word_info.specs.Overlaps.{overlaps_of}
use Rattle.word_info.specs.Told.{AreOverlaps, AreRows, IsEndText, IsRightImage, is_tape, records_in}
use Rattle.word_info.specs.declared.ranges.Range.{Range}
use Rattle.tape_words.specs.Asked.{InfoAsked}

the_form : (told : Result Form OtherText) → is_tape told ≡ true → told ≡ Ok Tape
the_form (Ok Tape) is = refl
the_form (Ok (Text form)) is = absurd (no is)
  where
    no : false ≡ true → ⊥
    no e = cc
the_form (Ok (Raw address)) is = absurd (no is)
  where
    no : false ≡ true → ⊥
    no e = cc
the_form (Ok Prg) is = absurd (no is)
  where
    no : false ≡ true → ⊥
    no e = cc
the_form (Err like) is = absurd (no is)
  where
    no : false ≡ true → ⊥
    no e = cc

-- a tape, which has data records
pub tape_image : (said : Option Form) (bytes read : List ℕ) (cells : List (Option ℕ)) → is_tape (form_by said bytes) ≡ true → read ≡ as_read bytes
    → TapeDenotes read cells → IsImage said bytes cells
tape_image said bytes read cells is e denotes = (Tape, the_form (form_by said bytes) is, subst (λ t. TapeDenotes t cells) e denotes)

pub tape_records : (said : Option Form) (bytes read : List ℕ) (count : ℕ) → is_tape (form_by said bytes) ≡ true → read ≡ as_read bytes
    → count ≡ data_records read → Some count ≡ records_in (form_by said bytes) bytes
tape_records said bytes read count is same e = ap Some (e ∙ ap data_records same)
    ∙ sym (ap (λ (t : Result Form OtherText). records_in t bytes) (the_form (form_by said bytes) is))

pub tape_overlaps : (said : Option Form) (bytes read : List ℕ) (overlaps : List Range) → is_tape (form_by said bytes) ≡ true → read ≡ as_read bytes
    → ((cells : List (Option ℕ)) → (tape : TapeDenotes read cells) → overlaps ≡ overlaps_of tape.pieces)
    → AreOverlaps (form_by said bytes) bytes overlaps
tape_overlaps said bytes read overlaps is same each =
    subst (λ (t : Result Form OtherText). AreOverlaps t bytes overlaps) (sym (the_form (form_by said bytes) is))
    (subst (λ t. (cells : List (Option ℕ)) → (tape : TapeDenotes t cells) → overlaps ≡ overlaps_of tape.pieces) same each)

-- another form
pub no_records : (told : Result Form OtherText) (bytes : List ℕ) → is_tape told ≡ false → None ≡ records_in told bytes
no_records (Ok Tape) bytes is = absurd (no is)
  where
    no : true ≡ false → ⊥
    no e = cc
no_records (Ok (Text form)) bytes is = refl
no_records (Ok (Raw address)) bytes is = refl
no_records (Ok Prg) bytes is = refl
no_records (Err like) bytes is = refl

-- what is said of an image
pub right_image : (asked : InfoAsked) (bytes : List ℕ) (image : List (Option ℕ)) (port : ℕ) (records : Option ℕ) (overlaps : List Range)
    (front end said : List ℕ) → port ≡ asked.port → IsImage asked.form bytes image
    → records ≡ records_in (form_by asked.form bytes) bytes → AreOverlaps (form_by asked.form bytes) bytes overlaps
    → AreRows asked.profile image port records overlaps front → IsEndText (form_by asked.form bytes) bytes end
    → said ≡ front ++ end → IsRightImage asked said
right_image asked bytes image port records overlaps front end said at is counts over rows ends told = record {
  bytes = bytes;
  image = image;
  denotes = is;
  overlaps = overlaps;
  written = over;
  front = front;
  rows = subst (λ (n : Option ℕ). AreRows asked.profile image asked.port n overlaps front) counts
      (subst (λ (k : ℕ). AreRows asked.profile image k records overlaps front) at rows);
  end = end;
  ends = ends;
  told = told;
}

-- bytes that are no image are refused for that, where it is not memory that ran out
pub other_image : (said : Option Form) (bytes : List ℕ) (no_image : NoImage) → (why.NoImage no_image ≡ why.Refused OutOfMemory)
    ⊎ IsNoImage said bytes (why.NoImage no_image) → IsNoImage said bytes (why.NoImage no_image)
other_image said bytes no_image (inl memory) = absurd (apart memory)
  where
    apart : why.NoImage no_image ≡ why.Refused OutOfMemory → ⊥
    apart e = cc
other_image said bytes no_image (inr is) = is
