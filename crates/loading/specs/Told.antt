-- What is told of a file that is not loaded. Source: mos65.
use Rattle.std.specs.Prelude.{◌≡◌, ℕ, List, Option}
use Rattle.arguments.specs.Asked.{FileAsked}
use Rattle.arguments.specs.FaultLines.{load_text}
use Rattle.arguments.specs.Statuses.{status_of_load}
use Rattle.arguments.specs.declared.load_fault.LoadFault.{LoadFault}
use Rattle.loading.specs.Loads.{EndsLoad}
use Rattle.model.specs.Writers.{AppendsFront}

-- What is known of the error stream, before and after.
pub record Heard : Type 0 where
  pub held : Option (List ℕ)
  pub now : Option (List ℕ)

-- The error stream got a text, or a beginning of it where a write failed.
abbrev pub Tells : Heard → List ℕ → Type 0
Tells heard text = AppendsFront heard.held heard.now text

-- The file was not loaded, the error stream got why, and the other streams were left alone,
-- `Alone`.
abbrev pub IsUnloaded : FileAsked → Heard → ℕ → Type 0 → Type 0
IsUnloaded file heard status Alone = (fault : LoadFault) × EndsLoad file fault
    × (status ≡ status_of_load fault) × Tells heard (load_text fault file.file) × Alone
