-- What the error stream gets of `asm` without further files. Source: mos65.
use Rattle.std.specs.Prelude.{◌≡◌, ◌++◌, ℕ, List, Option}
use Rattle.arguments.specs.FaultLines.{fault_line, named_line}
use Rattle.arguments.specs.Statuses.{status_of}
use Rattle.arguments.specs.declared.refusal.Refusal.{Refusal}
use Rattle.arguments.specs.declared.refusal.Refusal.TheVariants.{WriteFile}
use Rattle.model.specs.Writers.{AppendsFront}

-- The fault line of `asm`, which is promised. Behind that of a file that is not written stands the
-- line that says which and why, as all other words have it.
abbrev pub plain_lines : List ℕ → Refusal → List ℕ
plain_lines file (WriteFile fault)
    = fault_line (WriteFile fault) ++ named_line file (WriteFile fault)
plain_lines file refusal = fault_line refusal

-- The error stream got these lines of a refusal with this status, or a beginning of them if they
-- cannot be written.
abbrev pub IsToldPlainly : ℕ → Option (List ℕ) → Option (List ℕ) → Type 0
IsToldPlainly status held now = (refusal : Refusal) × (file : List ℕ)
    × (status ≡ status_of refusal) × AppendsFront held now (plain_lines file refusal)
