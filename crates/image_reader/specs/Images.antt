-- Which image some bytes denote in a form, and why they denote none. Source: mos65.
use Rattle.std.specs.Prelude.{◌≡◌, ⊤, ◌⊎◌, ℕ, ◌+◌, nat_le, if◌then◌else◌, List, [], ◌∷◌, length, Option, Result, Ok, Err}
use Rattle.image_reader.specs.declared.fault.ImageFault.{ImageFault}
use Rattle.image_reader.specs.declared.fault.ImageFault.TheVariants as fault
use Rattle.image_reader.specs.declared.fault.RecordFault.{RecordFault}
use Rattle.image_reader.specs.declared.form.Form.{Form}
use Rattle.image_reader.specs.declared.form.Form.TheVariants.{Tape, Text, Raw, Prg}
use Rattle.image_reader.specs.EndRecords.{as_read}
use Rattle.image_reader.specs.Records.{word_of}
use Rattle.image_reader.specs.Texts.{text_image}
use Rattle.model.specs.Image.{empty_image, with_bytes}
use Rattle.model.specs.Tape.{FirstFault, TapeDenotes}
use Rattle.model.specs.declared.tape.TapeFault.{TapeFault}
use Rattle.model.specs.declared.tape.TapeFaultKind.{TapeFaultKind}
use Rattle.model.specs.declared.tape.TapeFaultKind.TheVariants as tape_fault

-- Bytes alone, from an address on.
unfoldable pub raw_image : ℕ → List ℕ → Result (List (Option ℕ)) ImageFault
raw_image address bytes = if nat_le (address + length bytes) 65536
    then Ok (with_bytes empty_image address bytes) else Err fault.PastEnd

-- The address first, its low byte before its high one. Source: the LOAD of Commodore's KERNAL.
abbrev pub prg_image : List ℕ → Result (List (Option ℕ)) ImageFault
prg_image [] = Err fault.NoAddress
prg_image (low ∷ []) = Err fault.NoAddress
prg_image (low ∷ high ∷ bytes) = raw_image (word_of high low) bytes

-- Bytes denote an image. A tape's end record may have the number of records again for its sum.
abbrev pub Denotes : Form → List ℕ → List (Option ℕ) → Type 0
Denotes Tape bytes cells = TapeDenotes (as_read bytes) cells
Denotes (Text form) bytes cells = text_image form bytes ≡ Ok cells
Denotes (Raw address) bytes cells = raw_image address bytes ≡ Ok cells
Denotes Prg bytes cells = prg_image bytes ≡ Ok cells

abbrev pub IsTapeFault : List ℕ → ImageFault → Type 0
IsTapeFault bytes (fault.Tape f) = FirstFault bytes f.kind f.offset
IsTapeFault bytes f = ⊥

abbrev pub IsTextFault : Result (List (Option ℕ)) RecordFault → ImageFault → Type 0
IsTextFault gives (fault.Record f) = gives ≡ Err f
IsTextFault gives f = ⊥

-- Bytes denote none: this is their first fault.
abbrev pub HasFault : Form → List ℕ → ImageFault → Type 0
HasFault Tape bytes f = IsTapeFault (as_read bytes) f
HasFault (Text form) bytes f = IsTextFault (text_image form bytes) f
HasFault (Raw address) bytes f = raw_image address bytes ≡ Err f
HasFault Prg bytes f = prg_image bytes ≡ Err f

-- What a call returns for bytes that give this, unless memory ran out.
abbrev pub AnswersText : Result (List (Option ℕ)) RecordFault
    → Result (List (Option ℕ)) ImageFault → Type 0
AnswersText gives (Ok cells) = gives ≡ Ok cells
AnswersText gives (Err fault.OutOfMemory) = ⊤
AnswersText gives (Err f) = IsTextFault gives f

abbrev pub AnswersRaw : Result (List (Option ℕ)) ImageFault
    → Result (List (Option ℕ)) ImageFault → Type 0
AnswersRaw gives answer = (gives ≡ answer) ⊎ (answer ≡ Err fault.OutOfMemory)

-- The fault of a tape as one of an image.
abbrev pub of_tape_kind : TapeFaultKind → TapeFault → ImageFault
of_tape_kind tape_fault.OutOfMemory f = fault.OutOfMemory
of_tape_kind _ f = fault.Tape f

abbrev pub of_tape : TapeFault → ImageFault
of_tape f = of_tape_kind f.kind f
