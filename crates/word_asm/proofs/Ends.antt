-- What the fault of a source makes of the result.
use Rattle.std.proofs.Common.{◌≡◌, Result, Ok, Err, ◌⊎◌, inl, inr, ap}
use Rattle.arguments.specs.declared.load_fault.LoadFault.{LoadFault}
use Rattle.arguments.specs.declared.load_fault.LoadFault.TheVariants.{AtPort, Faults, LooksLikeCapture, LooksLikeHex, LooksLikeRaw, LooksLikeSRecords, LooksLikeTape, NoImage, Refused}
use Rattle.arguments.specs.declared.refusal.Refusal.TheVariants.{Words, Map as NoMap, Source, Tape, Session as NoSession, OutOfMemory, Read, Write, WriteFile}
use Rattle.word_asm.specs.CommandLine.{EndsTexts}
use Rattle.clap.specs.Words.{Text}
use Rattle.loading.specs.Loads.{EndsSourceFile}
use Rattle.model.specs.State.{Map}
use Rattle.model.specs.declared.source_fault.AsmFault.{AsmFault}

-- a source that was assembled has no fault
pub not_refused : {A E : Type 0} (a : A) (f g : E) → (Ok a ≡ Err f) ⊎ (Ok a ≡ Err g) → ⊥
not_refused a f g (inl e) = absurd cc
not_refused a f g (inr e) = absurd cc

abbrev fault_or : {A : Type 0} → AsmFault → Result A AsmFault → AsmFault
fault_or d (Ok a) = d
fault_or d (Err fault) = fault

abbrev failed : (A : Type 0) → AsmFault → Result A AsmFault
failed A fault = Err fault

-- a fault is that of a call with another result
pub other_result : {A X : Type 0} (e f g : AsmFault) → (failed A e ≡ failed A f) ⊎ (failed A e ≡ failed A g) → (failed X e ≡ failed X f)
    ⊎ (failed X e ≡ failed X g)
other_result e f g (inl same) = inl (ap Err (ap (fault_or e) same))
other_result e f g (inr same) = inr (ap Err (ap (fault_or e) same))

-- a source that is not assembled
pub source_ends : (bus_map : Map) (file : Text) (fault : LoadFault) → EndsSourceFile bus_map file fault → EndsTexts bus_map file fault
source_ends bus_map file LooksLikeTape ends = absurd ends
source_ends bus_map file LooksLikeHex ends = absurd ends
source_ends bus_map file LooksLikeSRecords ends = absurd ends
source_ends bus_map file LooksLikeRaw ends = absurd ends
source_ends bus_map file LooksLikeCapture ends = absurd ends
source_ends bus_map file (NoImage place what number note) ends = absurd ends
source_ends bus_map file (Faults fault text) ends = ends
source_ends bus_map file (AtPort first last free) ends = absurd ends
source_ends bus_map file (Refused Words) ends = absurd ends
source_ends bus_map file (Refused (NoMap fault)) ends = absurd ends
source_ends bus_map file (Refused (Source fault)) ends = absurd ends
source_ends bus_map file (Refused (Tape fault)) ends = absurd ends
source_ends bus_map file (Refused (NoSession fault)) ends = absurd ends
source_ends bus_map file (Refused OutOfMemory) ends = ends
source_ends bus_map file (Refused (Read why)) ends = ends
source_ends bus_map file (Refused Write) ends = absurd ends
source_ends bus_map file (Refused (WriteFile why)) ends = absurd ends
