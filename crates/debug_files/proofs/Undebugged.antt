-- What was told of a file of debug information that was not loaded.
use Rattle.std.proofs.Common.{◌≡◌, ℕ, List, Option, None, Some, Bor, option_map, unwrap_or}
use Rattle.arguments.specs.FaultLines.{load_text}
use Rattle.arguments.specs.Statuses.{status_of_load}
use Rattle.arguments.specs.declared.load_fault.LoadFault.{LoadFault}
use Rattle.debug_files.specs.Loaded.{EndsDebugInfo, IsUndebugged}
use Rattle.model.specs.Writers.{AppendsFront}

pub ends_debug : (debug : Option (Bor (List ℕ))) (other : Bor (List ℕ)) (held now : Option (List ℕ)) (fault : LoadFault) (status : ℕ) (Alone : Type 0)
    → EndsDebugInfo (option_map (λ s. s.now) debug) fault → status ≡ status_of_load fault
    → AppendsFront held now (load_text fault (unwrap_or debug other).now) → Alone
    → IsUndebugged (option_map (λ s. s.now) debug) held now status Alone
ends_debug None other held now fault status A ends is told alone = absurd ends
ends_debug (Some path) other held now fault status A ends is told alone = (fault, ends, is, told, alone)
