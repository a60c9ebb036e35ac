-- A line that can be read does what it asks for.
use Rattle.std.proofs.Common.{◌≡◌, Result, Ok, Err, IfOk, refl, sym, subst}
use Rattle.std.specs.Prelude.{OnOk}
use Rattle.std.specs.declared.alloc.AllocError.{AllocError}
use Rattle.mon_dispatch.specs.Lines.{Does, Follows, Tells, outcome_of}
use Rattle.mon_dispatch.specs.declared.lines.Outcome.{Outcome}
use Rattle.mon_lines.specs.Lines.{SeenCommand, SeenSlip, command_view}
use Rattle.mon_lines.specs.declared.command.Command.{Command}
use Rattle.mon_session.specs.declared.mon_state.MonState.{MonState}

pub followed : (r : Result Outcome AllocError) (read : Result SeenCommand SeenSlip) (command : Command) (old new : MonState)
    → read ≡ Ok (command_view command) → OnOk r (Does command old new) → OnOk r (Tells command old new) → IfOk r (λ o. o ≡ outcome_of command)
    → IfOk r (λ o. Follows read o old new)
followed (Ok o) read command old new is does says outcome =
    subst (λ (x : Result SeenCommand SeenSlip). Follows x o old new) (sym is) (command, refl, outcome, does, says)
followed (Err fault) read command old new is does says outcome = tt
