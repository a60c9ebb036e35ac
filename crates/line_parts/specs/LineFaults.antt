-- The result for a source: the fault of a line with its number, or that memory ran out.
use Rattle.std.specs.Prelude.{◌≡◌, ℕ, ◌⊎◌, Result, Ok, Err}
use Rattle.line_parts.specs.declared.fault.LineError.{LineError}
use Rattle.line_parts.specs.declared.fault.LineError.TheVariants as errors
use Rattle.model.specs.declared.source_fault.AsmFault.{AsmFault}
use Rattle.model.specs.declared.source_fault.AsmFaultKind.TheVariants.{OutOfMemory}

-- An allocation failed. No line is at fault.
abbrev pub out_of_memory : AsmFault
out_of_memory = record { line = 0; kind = OutOfMemory }

abbrev pub fault_on_line : ℕ → LineError → AsmFault
fault_on_line number errors.Memory = out_of_memory
fault_on_line number (errors.Kind kind) = record { line = number; kind = kind }

-- The result is what a definition gives, unless memory runs out.
abbrev pub AnswersSource : {A B : Type 0} → (A → B) → Result A AsmFault → Result B AsmFault → Type 0
AnswersSource shown (Ok a) given = given ≡ Ok (shown a)
AnswersSource shown (Err fault) given = (fault ≡ out_of_memory) ⊎ (given ≡ Err fault)
