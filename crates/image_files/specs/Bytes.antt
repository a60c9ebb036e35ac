-- Which image some bytes denote, in the form that is said of them or that they tell, and why they
-- denote none. Source: mos65.
use Rattle.std.specs.Prelude.{◌≡◌, ℕ, List, Option, Some, None, Result, Ok, Err}
use Rattle.arguments.specs.declared.refusal.Refusal.TheVariants as refusal
use Rattle.image_files.specs.Forms.{alone, begins_record, form_of}
use Rattle.image_reader.specs.Images.{Denotes, HasFault}
use Rattle.image_reader.specs.declared.fault.ImageFault.{ImageFault}
use Rattle.image_reader.specs.declared.fault.ImageFault.TheVariants as fault
use Rattle.image_reader.specs.declared.form.Form.{Form}
use Rattle.image_reader.specs.declared.form.Form.TheVariants.{Tape, Text, Raw, Prg}
use Rattle.image_files.specs.declared.form.OtherText.{OtherText}
use Rattle.image_files.specs.declared.refusal.ImageRefusal.{ImageRefusal}
use Rattle.image_files.specs.declared.refusal.ImageRefusal.TheVariants.{NoImage, Refused}
use Rattle.image_files.specs.declared.refusal.NoImage.TheVariants.{Record, PastEnd, NoAddress, Looks, TooLong}

-- The form of the bytes: that of their first record where none is said, and otherwise the one that is
-- said. One without records is refused where they begin with a record.
abbrev pub form_by : Option Form → List ℕ → Result Form OtherText
form_by None bytes = form_of bytes
form_by (Some Tape) bytes = Ok Tape
form_by (Some (Text form)) bytes = Ok (Text form)
form_by (Some (Raw address)) bytes = alone (Raw address) (begins_record bytes) (form_of bytes)
form_by (Some Prg) bytes = alone Prg (begins_record bytes) (form_of bytes)

-- Some bytes denote an image.
abbrev pub IsImage : Option Form → List ℕ → List (Option ℕ) → Type 0
IsImage said bytes cells = (form : Form) × (form_by said bytes ≡ Ok form) × Denotes form bytes cells

-- They have this fault first.
abbrev pub IsFaulty : Option Form → List ℕ → ImageFault → Type 0
IsFaulty said bytes f = (form : Form) × (form_by said bytes ≡ Ok form) × HasFault form bytes f

-- Why they denote none: no form is said and they begin with no record, or one without records is said
-- and they begin with one; or they have a fault.
abbrev pub IsNoImage : Option Form → List ℕ → ImageRefusal → Type 0
IsNoImage said bytes (NoImage (Looks like)) = form_by said bytes ≡ Err like
IsNoImage said bytes (NoImage (Record f)) = IsFaulty said bytes (fault.Record f)
IsNoImage said bytes (NoImage PastEnd) = IsFaulty said bytes fault.PastEnd
IsNoImage said bytes (NoImage NoAddress) = IsFaulty said bytes fault.NoAddress
IsNoImage said bytes (NoImage TooLong) = ⊥
IsNoImage said bytes (Refused (refusal.Tape f)) = IsFaulty said bytes (fault.Tape f)
IsNoImage said bytes (Refused f) = ⊥

-- A fault of an image as why bytes denote none.
abbrev pub of_fault : ImageFault → ImageRefusal
of_fault (fault.Record f) = NoImage (Record f)
of_fault (fault.Tape f) = Refused (refusal.Tape f)
of_fault fault.PastEnd = NoImage PastEnd
of_fault fault.NoAddress = NoImage NoAddress
of_fault fault.OutOfMemory = Refused refusal.OutOfMemory

-- What reading an image gives as what its file gives.
abbrev pub as_refusal : Result (List (Option ℕ)) ImageFault → Result (List (Option ℕ)) ImageRefusal
as_refusal (Ok cells) = Ok cells
as_refusal (Err f) = Err (of_fault f)
