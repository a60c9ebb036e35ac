-- What reading a tape gives, as reading an image.
use Rattle.std.proofs.Common.{◌≡◌, ◌⊎◌, ℕ, List, Option, Result, Ok, Err, ap, ◌∙◌, inl, inr}
use Rattle.image_reader.specs.declared.fault.ImageFault.{ImageFault}
use Rattle.image_reader.specs.declared.fault.ImageFault.TheVariants.{OutOfMemory}
use Rattle.image_reader.specs.Images.{of_tape}
use Rattle.model.specs.TapeFault.{out_of_memory}
use Rattle.model.specs.declared.tape.TapeFault.{TapeFault}

abbrev Cells : Type 0
Cells = List (Option ℕ)

abbrev Tape : Type 0
Tape = Result Cells TapeFault

abbrev Image : Type 0
Image = Result Cells ImageFault

abbrev tape_ok : Cells → Tape
tape_ok cells = Ok cells

abbrev tape_err : TapeFault → Tape
tape_err f = Err f

abbrev image_ok : Cells → Image
image_ok cells = Ok cells

abbrev image_err : ImageFault → Image
image_err f = Err f

pub only_ok : (image cells : Cells) → (tape_ok image ≡ tape_ok cells) ⊎ (tape_ok image ≡ tape_err out_of_memory)
    → (image_ok image ≡ image_ok cells) ⊎ (image_ok image ≡ image_err OutOfMemory)
only_ok image cells (inl e) = let same : image ≡ cells = cc in inl (ap image_ok same)
only_ok image cells (inr e) = absurd cc

pub only_err : (f : TapeFault) (g : ImageFault) (cells : Cells) → g ≡ of_tape f → (tape_err f ≡ tape_ok cells) ⊎ (tape_err f ≡ tape_err out_of_memory)
    → (image_err g ≡ image_ok cells) ⊎ (image_err g ≡ image_err OutOfMemory)
only_err f g cells is (inl e) = absurd cc
only_err f g cells is (inr e) = let same : f ≡ out_of_memory = cc in inr (ap image_err (is ∙ ap of_tape same))
