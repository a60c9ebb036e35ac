-- The image of a source in other forms than a tape. Source: mos65.
use Rattle.std.specs.Prelude.{◌≡◌, ⊤, ℕ, Bool, true, false, List, [], Option, Some, None, Ok, option_map}
use Rattle.word_asm.specs.declared.images.ImageTexts.{ImageTexts}
use Rattle.word_asm.specs.declared.images.ImagesAsked.{ImagesAsked}
use Rattle.image_files.specs.Ends.{AreEnds}
use Rattle.image_reader.specs.Images.{raw_image}
use Rattle.image_reader.specs.Texts.{text_image}
use Rattle.image_reader.specs.declared.form.TextForm.{TextForm}
use Rattle.image_reader.specs.declared.form.TextForm.TheVariants.{Hex, SRecord}
use Rattle.image_writer.specs.Window.{IsReadPart}
use Rattle.model.specs.Source.{Denotes}
use Rattle.model.specs.State.{Map}

-- Bytes alone, read again from the image's first byte on, are the image, with a byte in its gaps. An
-- image without a byte has none.
abbrev pub IsRawFrom : Option (ℕ × ℕ) → ℕ → List (Option ℕ) → List ℕ → Type 0
IsRawFrom None fill image out = out ≡ []
IsRawFrom (Some ends) fill image out = IsReadPart ends.0 ends.1 fill image (raw_image ends.0 out)

abbrev pub IsRaw : ℕ → List (Option ℕ) → List ℕ → Type 0
IsRaw fill image out = (ends : Option (ℕ × ℕ)) × AreEnds image ends × IsRawFrom ends fill image out

-- They are there if they are asked for, with the byte that fills gaps.
abbrev pub IsRawOf : Option ℕ → List (Option ℕ) → Option (List ℕ) → Type 0
IsRawOf (Some fill) image (Some out) = IsRaw fill image out
IsRawOf (Some fill) image None = ⊥
IsRawOf None image (Some out) = ⊥
IsRawOf None image None = ⊤

-- A text of records, read again, is the image. It is there if it is asked for.
abbrev pub IsTextOf : TextForm → Bool → List (Option ℕ) → Option (List ℕ) → Type 0
IsTextOf form true image (Some out) = text_image form out ≡ Ok image
IsTextOf form true image None = ⊥
IsTextOf form false image (Some out) = ⊥
IsTextOf form false image None = ⊤

-- The image in each form that is asked for.
pub record AreImages (asked : ImagesAsked) (image : List (Option ℕ)) (t : ImageTexts) : Type 0 where
  pub raw : IsRawOf asked.raw image (option_map (λ v. v.items) t.raw)
  pub hex : IsTextOf Hex asked.is_hex image (option_map (λ v. v.items) t.hex)
  pub srec : IsTextOf SRecord asked.is_srec image (option_map (λ v. v.items) t.srec)

-- The image that a source denotes on a map, in each form that is asked for.
abbrev pub AreImagesOf : Map → List ℕ → ImagesAsked → ImageTexts → Type 0
AreImagesOf bus_map source asked t = (image : List (Option ℕ)) × Denotes bus_map source image
    × AreImages asked image t
