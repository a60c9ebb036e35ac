-- What the error stream gets of a session that ends early, with the name of its file. Source: mos65.
use Rattle.std.specs.Prelude.{◌≡◌, ℕ, Bool, true, false, List, Option, if◌then◌else◌}
use Rattle.arguments.specs.FaultLines.{fault_line, file_line}
use Rattle.arguments.specs.Statuses.{status_of}
use Rattle.arguments.specs.declared.refusal.ReadFault.TheVariants.{Other}
use Rattle.arguments.specs.declared.refusal.Refusal.{Refusal}
use Rattle.arguments.specs.declared.refusal.Refusal.TheVariants.{Read, Write}
use Rattle.model.specs.Writers.{AppendsFront}

-- A refusal that may be of a standard stream: no line says then that it is of the file.
abbrev pub is_of_stream : Refusal → Bool
is_of_stream Write = true
is_of_stream (Read Other) = true
is_of_stream refusal = false

abbrev pub session_line : List ℕ → Refusal → List ℕ
session_line file refusal
    = if is_of_stream refusal then fault_line refusal else file_line file refusal

-- The error stream got the line of a refusal with this status, or a beginning of the line if it cannot
-- be written.
abbrev pub IsToldOfSession : List ℕ → ℕ → Option (List ℕ) → Option (List ℕ) → Type 0
IsToldOfSession file status held now = (refusal : Refusal) × (status ≡ status_of refusal)
    × AppendsFront held now (session_line file refusal)
