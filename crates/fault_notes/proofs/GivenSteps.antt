-- Faults that are told.
use Rattle.std.proofs.Common.{◌≡◌, ℕ, List, [], ◌∷◌, slice_get, Some, ap}
use Rattle.fault_notes.specs.Given.{told_of}
use Rattle.model.specs.declared.source_fault.AsmFault.{AsmFault}

-- the first is told
pub first_is_told : (lines : List (List ℕ)) (faults : List AsmFault) (fault : AsmFault) → slice_get faults 0 ≡ Some fault
    → slice_get (told_of lines faults) 0 ≡ Some fault
first_is_told lines [] fault is = is
first_is_told lines (first ∷ rest) fault is = is

-- of none, none is told
pub none_is_told : (lines : List (List ℕ)) (faults : List AsmFault) → faults ≡ [] → told_of lines faults ≡ []
none_is_told lines faults is = ap (told_of lines) is
