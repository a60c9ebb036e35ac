-- What a diagnostic is called, and of which kind it is: it is called as `check` calls the fault or the warning. Source: mos65.
use Rattle.std.specs.Prelude.{ℕ, Bool, true, false, List}
use Rattle.model.specs.FaultNames.{source_fault_name}
use Rattle.model.specs.declared.source_fault.AsmFaultKind.TheVariants.{BranchRange}
use Rattle.lsp_answers.specs.declared.kinds.DiagnosticKind.{DiagnosticKind}
use Rattle.lsp_answers.specs.declared.kinds.DiagnosticKind.TheVariants.{Fault, Warning}
use Rattle.warning_notes.specs.Blocks.{kind_name}
use Rattle.warnings.specs.declared.kinds.WarningKind.TheVariants.{PlainNumber, UnusedName}

abbrev pub name_of : DiagnosticKind → List ℕ
name_of (Fault kind) = source_fault_name kind
name_of (Warning kind) = kind_name kind

abbrev pub is_fault : DiagnosticKind → Bool
is_fault (Fault kind) = true
is_fault (Warning kind) = false

-- A number lacks the `#` with which it would be no address.
abbrev pub lacks_mark : DiagnosticKind → Bool
lacks_mark (Warning PlainNumber) = true
lacks_mark kind = false

-- No expression uses a name.
abbrev pub is_unused_name : DiagnosticKind → Bool
is_unused_name (Warning UnusedName) = true
is_unused_name kind = false

-- A branch does not reach its target.
abbrev pub is_far_branch : DiagnosticKind → Bool
is_far_branch (Fault BranchRange) = true
is_far_branch kind = false
