-- A text assembled, or refused.
use Rattle.std.proofs.Common.{◌≡◌, ◌≢◌, ℕ, ◌≤◌, List, Option, Result, Ok, Err, refl, sym, ap, ◌∙◌, subst, take, ◌⊎◌, inl, inr}
use Rattle.std.proofs.lemmas.Bool.{le-ltb}
use Rattle.model.specs.State.{State}
use Rattle.model.specs.Session.{Session}
use Rattle.model.specs.Event.{event_of, patch_of}
use Rattle.model.specs.Transcript.{asm_answer, event_answer, source_fault_line}
use Rattle.model.specs.Writers.{Writes, AppendsFront}
use Rattle.model.specs.declared.event.Event.TheVariants.{Patch}
use Rattle.model.specs.declared.source_fault.AsmFault.{AsmFault}
use Rattle.model.specs.declared.source_fault.AsmFaultKind.{AsmFaultKind}
use Rattle.model.specs.declared.source_fault.AsmFaultKind.TheVariants as source_fault
use Rattle.law_sources.specs.Judging.{on_line}
use Rattle.assembler.specs.Assembly as assemblies
use Rattle.replies.specs.declared.fault.ReplyFault.{ReplyFault}
use Rattle.replies.specs.declared.fault.ReplyFault.TheVariants as reply_fault
use Rattle.model.proofs.Written.{front_none}

abbrev Bytes : Type 0
Bytes = List ℕ

abbrev Given : Type 0
Given = Result Bytes AsmFaultKind

abbrev Told : Type 0
Told = Result (Unit {0}) ReplyFault

-- ---- assembled

given_bytes : (given : Given) (bytes : Bytes) → on_line 1 given ≡ Ok bytes → given ≡ Ok bytes
given_bytes (Ok b) bytes e = cc
given_bytes (Err k) bytes e = absurd cc

-- the event is the patch with the bytes
pub patched : (s : State) (address : ℕ) (bytes : Bytes) (count : ℕ) → count ≤ 3 → event_of s (Patch address bytes count) ≡ patch_of address (take count bytes) s
unfolding event_of
patched s address bytes count few = rw (le-ltb 3 count few) refl

pub assembled : (s : Session) (address : ℕ) (given : Given) (bytes : Bytes) (count : ℕ) → count ≤ 3 → on_line 1 given ≡ Ok (take count bytes)
    → event_answer s (event_of s.current (Patch address bytes count)) ≡ asm_answer s address given
assembled s address given bytes count few e =
    ap (event_answer s) (patched s.current address bytes count few) ∙ sym (ap (asm_answer s address) (given_bytes given (take count bytes) e))

-- ---- refused

is_memory : (k : AsmFaultKind) → (k ≡ source_fault.OutOfMemory) ⊎ (k ≢ source_fault.OutOfMemory)
is_memory source_fault.OutOfMemory = inl refl
is_memory _ = inr (λ e. cc)

given_fault : (given : Given) (fault : AsmFault) → on_line 1 given ≡ Err fault → given ≡ Err fault.kind
given_fault (Ok b) fault e = absurd cc
given_fault (Err k) fault e = ap Err (ap kind_in e)
  where
    kind_in : Result Bytes AsmFault → AsmFaultKind
    kind_in (Ok b) = k
    kind_in (Err f) = f.kind

module _ (a b : Option (List ℕ)) (s : Session) (address : ℕ) (given : Given) (fault : AsmFault) (r : Told)
    (why : (fault ≡ assemblies.out_of_memory) ⊎ (on_line 1 given ≡ Err fault))
    (memory : fault.kind ≡ source_fault.OutOfMemory → (r ≡ Err reply_fault.OutOfMemory) × (b ≡ a)) where
  nothing : (text : List ℕ) → (r ≡ Err reply_fault.OutOfMemory) × (b ≡ a) → Writes a b text r
  nothing text h = subst (λ (q : Told). Writes a b text q) (sym h.0) (subst (λ (o : Option (List ℕ)). AppendsFront a o text) (sym h.1) (front_none a text))

  pub refused : (fault.kind ≢ source_fault.OutOfMemory → Writes a b (source_fault_line fault.kind) r) → Writes a b (asm_answer s address given).written r
  refused writes = elim (is_memory fault.kind) [
    | inl out ↦ nothing (asm_answer s address given).written (memory out)
    | inr other ↦ elim why [
      | inl out ↦ absurd (other (ap (λ (f : AsmFault). f.kind) out))
      | inr e ↦ subst (λ (g : Given). Writes a b (asm_answer s address g).written r) (sym (given_fault given fault e)) (writes other)
    ]
  ]

  pub refused_session : r ≢ Err reply_fault.OutOfMemory → s ≡ (asm_answer s address given).session
  refused_session other = elim why [
    | inl out ↦ absurd (other (memory (ap (λ (f : AsmFault). f.kind) out)).0)
    | inr e ↦ sym (ap (λ (g : Given). (asm_answer s address g).session) (given_fault given fault e))
  ]
