-- What is written of an image in a form. Source: mos65.
use Rattle.std.specs.Prelude.{◌≡◌, ℕ, List, Option, Ok}
use Rattle.arguments.specs.declared.file_names.FormName.{FormName}
use Rattle.arguments.specs.declared.file_names.FormName.TheVariants.{Bin, Hex, SRecord, Tape, Prg}
use Rattle.image_reader.specs.Images.{prg_image, raw_image}
use Rattle.image_reader.specs.Texts.{text_image}
use Rattle.image_reader.specs.declared.form.TextForm.TheVariants as text_form
use Rattle.image_writer.specs.Window.{IsReadPart}
use Rattle.model.specs.Tape.{TapeDenotes}

-- What is written is read again as this image. Raw bytes and a PRG file go from one address to another.
abbrev pub ReadsAs : FormName → ℕ → ℕ → List (Option ℕ) → List ℕ → Type 0
ReadsAs Hex low high image out = text_image text_form.Hex out ≡ Ok image
ReadsAs SRecord low high image out = text_image text_form.SRecord out ≡ Ok image
ReadsAs Tape low high image out = TapeDenotes out image
ReadsAs Bin low high image out = IsReadPart low high 255 image (raw_image low out)
ReadsAs Prg low high image out = IsReadPart low high 255 image (prg_image out)
