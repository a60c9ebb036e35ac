-- What a line says of the text that begins with it.
use Rattle.std.proofs.Common.{◌≡◌, ◌⊎◌, ◌↔◌, ℕ, true, false, List, Option, Result, Ok, Err, inl, inr, sym, ap}
use Rattle.image_files.specs.Looks.{goes_on, lacks_end}
use Rattle.image_reader.specs.Images.{IsTextFault}
use Rattle.image_reader.specs.declared.fault.ImageFault.TheVariants as fault
use Rattle.image_reader.specs.declared.fault.RecordFault.{RecordFault}
use Rattle.papertape.specs.Hint.{BeginsTape}

abbrev Gives : Type 0
Gives = Result (List (Option ℕ)) RecordFault

pub denotes_goes : (gives : Gives) (cells : List (Option ℕ)) → gives ≡ Ok cells → true ≡ goes_on gives
denotes_goes gives cells is = sym (ap goes_on is)

pub fault_goes : (gives : Gives) (f : RecordFault) → (fault.Record f ≡ fault.OutOfMemory) ⊎ IsTextFault gives (fault.Record f)
    → lacks_end f.kind ≡ goes_on gives
fault_goes gives f (inl memory) = absurd (no memory)
  where
    no : fault.Record f ≡ fault.OutOfMemory → ⊥
    no e = cc
fault_goes gives f (inr is) = sym (ap goes_on is)

pub no_tape : (text : List ℕ) → (false ≡ true) ↔ BeginsTape text → BeginsTape text → ⊥
no_tape text says begins = no (says.1 begins)
  where
    no : false ≡ true → ⊥
    no e = cc
