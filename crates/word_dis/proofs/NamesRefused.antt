-- Why a source of names is refused.
use Rattle.std.proofs.Common.{◌≡◌, ◌⊎◌, List, ℕ, inl, inr, refl, subst, sym, Result, Ok, Err, IfErr}
use Rattle.std.specs.Result.{IsErrAnd}
use Rattle.arguments.specs.Refusals.{of_source, of_source_kind}
use Rattle.arguments.specs.declared.refusal.Refusal.{Refusal}
use Rattle.arguments.specs.declared.refusal.Refusal.TheVariants.{OutOfMemory, Source}
use Rattle.assembler.specs.Assembly.{out_of_memory}
use Rattle.word_dis.specs.Word.{EndsNames, names_map}
use Rattle.model.specs.Source.{HasFault}
use Rattle.model.specs.State.{Map}
use Rattle.model.specs.declared.instruction.Profile.{Profile}
use Rattle.model.specs.declared.source_fault.AsmFault.{AsmFault}
use Rattle.model.specs.declared.source_fault.AsmFaultKind.{AsmFaultKind}
use Rattle.model.specs.declared.source_fault.AsmFaultKind.TheVariants as kind

of_kinds : (k : AsmFaultKind) (fault : AsmFault) → (of_source_kind k fault ≡ Source fault) ⊎ (of_source_kind k fault ≡ OutOfMemory)
of_kinds kind.OutOfMemory fault = inr refl
of_kinds _ fault = inl refl

fault_ends : (profile : Profile) (source : List ℕ) (fault : AsmFault) → (fault ≡ out_of_memory) ⊎ HasFault (names_map profile) source fault
    → EndsNames profile source (of_source fault)
fault_ends profile source fault (inl memory) = subst (λ (f : AsmFault). EndsNames profile source (of_source f)) (sym memory) tt
fault_ends profile source fault (inr has) = elim (of_kinds fault.kind fault) [
  | inl named ↦ subst (EndsNames profile source) (sym named) has
  | inr memory ↦ subst (EndsNames profile source) (sym memory) tt
]

pub names_refused : {X : Type 0} (profile : Profile) (source : List ℕ) (bus_map : Map) (fault : AsmFault) (result : Result X Refusal)
    → bus_map ≡ names_map profile
    → (fault ≡ out_of_memory) ⊎ HasFault bus_map source fault → IsErrAnd result (λ r. r ≡ of_source fault) → IfErr result (EndsNames profile source)
names_refused profile source bus_map fault (Ok x) same ends passed = absurd passed
names_refused profile source bus_map fault (Err r) same ends passed =
    subst (EndsNames profile source) (sym passed) (fault_ends profile source fault
    (subst (λ (m : Map). (fault ≡ out_of_memory) ⊎ HasFault m source fault) same ends))
