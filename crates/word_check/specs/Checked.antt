-- What is written of the faults of a source, or of its warnings. Source: mos65.
use Rattle.std.specs.Prelude.{ℕ, List, [], ◌∷◌}
use Rattle.fault_notes.specs.Blocks.{IsTold}
use Rattle.model.specs.declared.instruction.Profile.{Profile}
use Rattle.model.specs.declared.source_fault.AsmFault.{AsmFault}
use Rattle.warning_notes.specs.Blocks.{IsWarnedText}
use Rattle.warnings.specs.declared.kinds.Warning.{Warning}

-- The faults of a source are written, or the warnings if there is no fault.
abbrev pub IsCheckedText : List ℕ → List ℕ → Profile → List AsmFault → List Warning → List ℕ
    → Type 0
IsCheckedText file source profile [] warnings text = IsWarnedText file source warnings text
IsCheckedText file source profile (fault ∷ faults) warnings text
    = IsTold file source profile (fault ∷ faults) text
