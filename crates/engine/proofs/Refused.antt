-- What a refusal of a part makes of the engine's answer.
use Rattle.std.proofs.Common.{◌≡◌, ℕ, List, [], Option, Result, Ok, Err, refl, sym, ap, ◌∙◌, subst, ◌⊎◌, inl, inr}
use Rattle.std.specs.Result.{IsErrAnd}
use Rattle.model.specs.Tape.{TapeDenotes}
use Rattle.model.specs.TapeFault as tape_faults
use Rattle.model.specs.declared.tape.TapeFault.{TapeFault}
use Rattle.model.specs.declared.tape.TapeFaultKind.{TapeFaultKind}
use Rattle.model.specs.declared.tape.TapeFaultKind.TheVariants as tape_fault
use Rattle.model.specs.declared.source_fault.AsmFault.{AsmFault}
use Rattle.model.specs.declared.source_fault.AsmFaultKind.{AsmFaultKind}
use Rattle.model.specs.declared.source_fault.AsmFaultKind.TheVariants as source_fault
use Rattle.model.specs.declared.session_fault.SessionFault.{SessionFault}
use Rattle.assembler.specs.Assembly as assemblies
use Rattle.engine.specs.declared.fault.EngineFault.{EngineFault}
use Rattle.engine.specs.declared.fault.EngineFault.TheVariants.{Source, Tape, Session, Read, Write, OutOfMemory}
use Rattle.engine.specs.Refusals.{of_source_kind, of_source, of_tape_kind, of_tape, IfSource, IfTape, IfSession}

-- ---- a tape that was read, or was not

abbrev Image : Type 0
Image = List (Option ℕ)

abbrev ReadResult : Type 0
ReadResult = Result Image TapeFault

abbrev read_ok : Image → ReadResult
read_ok image = Ok image

abbrev read_err : TapeFault → ReadResult
read_err fault = Err fault

abbrev failed : (X E : Type 0) → E → Result X E
failed X E fault = Err fault

abbrev image_in : ReadResult → Image
image_in (Ok image) = image
image_in (Err fault) = []

abbrev fault_in : ReadResult → TapeFault
fault_in (Ok image) = tape_faults.out_of_memory
fault_in (Err fault) = fault

same_image : (image cells : Image) (f : TapeFault) → (read_ok image ≡ read_ok cells) ⊎ (read_ok image ≡ read_err f) → image ≡ cells
same_image image cells f (inl e) = ap image_in e
same_image image cells f (inr e) = absurd cc

-- What holds of the image that was read holds of each image that the text denotes.
pub for_each : (P : Image → Type 0) (text : List ℕ) (image : Image)
    → ((cells : Image) → TapeDenotes text cells → (read_ok image ≡ read_ok cells) ⊎ (read_ok image ≡ read_err tape_faults.out_of_memory))
    → P image → (cells : Image) → TapeDenotes text cells → P cells
for_each P text image only p cells d = subst P (same_image image cells _ (only cells d)) p

-- An image was read, so no fault was.
pub not_refused : {A E : Type 0} (a : A) (f g : E) → (Ok a ≡ Err f) ⊎ (Ok a ≡ Err g) → ⊥
not_refused a f g (inl e) = absurd cc
not_refused a f g (inr e) = absurd cc

-- Where the text denotes an image, only running out of memory keeps it from being read.
only_memory : (f : TapeFault) (cells : Image) → (read_err f ≡ read_ok cells) ⊎ (read_err f ≡ read_err tape_faults.out_of_memory) → f ≡ tape_faults.out_of_memory
only_memory f cells (inl e) = absurd cc
only_memory f cells (inr e) = ap fault_in e

pub tape_memory : {X : Type 0} (result : Result X EngineFault) (f : TapeFault) (cells : Image) → IsErrAnd result (λ e. e ≡ of_tape f)
    → (read_err f ≡ read_ok cells) ⊎ (read_err f ≡ read_err tape_faults.out_of_memory) → result ≡ Err OutOfMemory
tape_memory (Ok x) f cells h only = absurd h
tape_memory (Err e) f cells h only = ap Err (h ∙ ap of_tape (only_memory f cells only))

pub tape_either : (kind : TapeFaultKind) (f : TapeFault) → (of_tape_kind kind f ≡ Tape f) ⊎ (of_tape_kind kind f ≡ OutOfMemory)
tape_either tape_fault.OutOfMemory f = inr refl
tape_either _ f = inl refl

tape_answer : {X : Type 0} (f : TapeFault) → (failed X EngineFault (of_tape f) ≡ Err (Tape f)) ⊎ (failed X EngineFault (of_tape f) ≡ Err OutOfMemory)
tape_answer f = elim (tape_either f.kind f) [
  | inl e ↦ inl (ap Err e)
  | inr e ↦ inr (ap Err e)
]

-- The fault of a tape is returned, or running out of memory.
pub tape_answered : {X : Type 0} (result : Result X EngineFault) (f g : TapeFault) → IsErrAnd result (λ e. e ≡ of_tape f)
    → (read_err f ≡ read_err g) ⊎ (read_err f ≡ read_err tape_faults.out_of_memory) → (result ≡ Err (Tape g)) ⊎ (result ≡ Err OutOfMemory)
tape_answered (Ok x) f g h only = absurd h
tape_answered {X = X} (Err e) f g h (inl same) =
    let P : EngineFault → Type 0 = λ a. (failed X EngineFault a ≡ Err (Tape g)) ⊎ (failed X EngineFault a ≡ Err OutOfMemory) in
    subst P (sym (h ∙ ap of_tape (ap fault_in same))) (tape_answer {X = X} g)
tape_answered (Err e) f g h (inr memory) = inr (ap Err (h ∙ ap of_tape (ap fault_in memory)))

-- ---- a source that was refused

pub source_memory : {X : Type 0} (result : Result X EngineFault) (f : AsmFault) → IsErrAnd result (λ e. e ≡ of_source f)
    → f ≡ assemblies.out_of_memory → result ≡ Err OutOfMemory
source_memory (Ok x) f h memory = absurd h
source_memory (Err e) f h memory = ap Err (h ∙ ap of_source memory)

pub source_either : (kind : AsmFaultKind) (f : AsmFault) → (of_source_kind kind f ≡ Source f) ⊎ (of_source_kind kind f ≡ OutOfMemory)
source_either source_fault.OutOfMemory f = inr refl
source_either _ f = inl refl

abbrev fault_or : {A E : Type 0} → E → Result A E → E
fault_or d (Ok a) = d
fault_or d (Err fault) = fault

pub same_fault : (A E : Type 0) (f g h : E) → (failed A E f ≡ failed A E g) ⊎ (failed A E f ≡ failed A E h) → (f ≡ g) ⊎ (f ≡ h)
same_fault A E f g h (inl e) = inl (ap (fault_or f) e)
same_fault A E f g h (inr e) = inr (ap (fault_or f) e)

-- The fault of a source is returned, or running out of memory.
pub source_answered : {X : Type 0} (result : Result X EngineFault) (f g : AsmFault) → IsErrAnd result (λ e. e ≡ of_source f)
    → (f ≡ g) ⊎ (f ≡ assemblies.out_of_memory) → (result ≡ Err (Source g)) ⊎ (result ≡ Err OutOfMemory)
source_answered result f g h (inr memory) = inr (source_memory result f h memory)
source_answered (Ok x) f g h (inl same) = absurd h
source_answered (Err e) f g h (inl same) = elim (source_either g.kind g) [
  | inl s ↦ inl (ap Err (h ∙ ap of_source same ∙ s))
  | inr m ↦ inr (ap Err (h ∙ ap of_source same ∙ m))
]

-- What holds of a source's fault holds where the source is refused.
pub source_refused : {X : Type 0} (result : Result X EngineFault) (f : AsmFault) (P : AsmFault → Type 0) → IsErrAnd result (λ e. e ≡ of_source f)
    → (f ≡ assemblies.out_of_memory) ⊎ P f → IfSource result P
source_refused (Ok x) f P h why = tt
source_refused {X = X} (Err e) f P h (inl memory) = subst (λ a. IfSource {X = X} (Err a) P) (sym (h ∙ ap of_source memory)) tt
source_refused {X = X} (Err e) f P h (inr p) = elim (source_either f.kind f) [
  | inl s ↦ subst (λ a. IfSource {X = X} (Err a) P) (sym (h ∙ s)) p
  | inr m ↦ subst (λ a. IfSource {X = X} (Err a) P) (sym (h ∙ m)) tt
]

-- Where memory ran out, no source was refused, and no tape.
pub memory_no_source : {X : Type 0} (result : Result X EngineFault) → result ≡ Err OutOfMemory → IfSource result (λ _. ⊥)
memory_no_source {X = X} result e = subst (λ r. IfSource {X = X} r (λ _. ⊥)) (sym e) tt

pub memory_no_tape : {X : Type 0} (result : Result X EngineFault) → result ≡ Err OutOfMemory → IfTape result (λ _. ⊥)
memory_no_tape {X = X} result e = subst (λ r. IfTape {X = X} r (λ _. ⊥)) (sym e) tt

-- ---- a session that was refused

pub no_session : {X : Type 0} (result : Result X EngineFault) (P : SessionFault → Type 0) → IfSession result P
    → ((fault : SessionFault) → P fault → ⊥) → IfSession result (λ _. ⊥)
no_session (Ok x) P h not = tt
no_session (Err (Source fault)) P h not = tt
no_session (Err (Tape fault)) P h not = tt
no_session (Err (Session fault)) P h not = not fault h
no_session (Err Read) P h not = tt
no_session (Err Write) P h not = tt
no_session (Err OutOfMemory) P h not = tt
