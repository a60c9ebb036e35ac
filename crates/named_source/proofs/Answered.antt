-- What is answered of a text that denotes bytes.
use Rattle.std.proofs.Common.{◌≡◌, ℕ, List, Ok, Err, Result, take}
use Rattle.std.specs.Prelude.{IfOk, IfErr, ◌⊎◌}
use Rattle.std.proofs.Common.{inl, inr}
use Rattle.model.specs.declared.source_fault.AsmFault.{AsmFault}
use Rattle.model.specs.declared.source_fault.AsmFaultKind.{AsmFaultKind}
use Rattle.assembler.specs.Assembly.{AnswersSource, out_of_memory}
use Rattle.assembler.specs.declared.one_line.Line.{Line}
use Rattle.law_sources.specs.Judging.{on_line}

abbrev pub bytes_of : Line → List ℕ
bytes_of l = take l.count l.bytes

abbrev made : List ℕ → Result (List ℕ) AsmFault
made bytes = Ok bytes

pub right : (r : Result Line AsmFault) (bytes : List ℕ) (given : Result (List ℕ) AsmFaultKind) → given ≡ Ok bytes
    → AnswersSource bytes_of r (on_line 1 given) → IfOk r (λ l. bytes_of l ≡ bytes)
right (Ok l) bytes given is says = let same : made bytes ≡ Ok (bytes_of l) = rw is at says in cc
right (Err f) bytes given is says = tt

-- no fault is left
no_fault : (f : AsmFault) (bytes : List ℕ) → (f ≡ out_of_memory) ⊎ (made bytes ≡ Err f) → f ≡ out_of_memory
no_fault f bytes (inl memory) = memory
no_fault f bytes (inr never) = cc

pub only_memory : (r : Result Line AsmFault) (bytes : List ℕ) (given : Result (List ℕ) AsmFaultKind) → given ≡ Ok bytes
    → AnswersSource bytes_of r (on_line 1 given) → IfErr r (λ f. f ≡ out_of_memory)
only_memory (Ok l) bytes given is says = tt
only_memory (Err f) bytes given is says = no_fault f bytes (rw is at says)
