-- A step that was made follows, seen from what it stored.
use Rattle.std.proofs.Common.{◌≡◌, ◌∙◌, Result, Ok, Err, subst, ap, sym}
use Rattle.std.specs.Prelude.{OnOk, IfErr}
use Rattle.model.specs.State.{State}
use Rattle.model.specs.Event.{event_of}
use Rattle.model.specs.Step.{step}
use Rattle.model.specs.Undo.{CanRestore, bus_before}
use Rattle.model.specs.declared.event.Event.TheVariants.{Step}
use Rattle.model.specs.declared.event.EventFault.{EventFault}
use Rattle.model.specs.declared.undo.Change.{Change}
use Rattle.debugger.specs.Replay.{Follows}
use Rattle.debugger.proofs.Replays.{follows_of, grows_plain}
use Rattle.debugger.proofs.Runs.{event_is_step, record_of, undoes_by}

pub step_follows : (change : Change) (before after : State) → step before ≡ Ok after → CanRestore change after.bus
    → bus_before change after.bus ≡ before.bus → Follows before Step after
step_follows change before after made fits back = follows_of (record_of change before) before after Step (event_is_step before ∙ made)
    (undoes_by change before after fits back)

-- a step that changed of the bus only memory
pub quick_follows : (before after : State) → step before ≡ Ok after → after.bus ≡ record before.bus { memory = after.bus.memory } → Follows before Step after
quick_follows before after made rest = record { accepted = event_is_step before ∙ made; grows = grows_plain before after rest }

-- a step of a state that another call has left as it was
pub noted_follows : (result : Result Unit EventFault) (change : Change) (before same after : State) → same ≡ before
    → OnOk result (step same ≡ Ok after) → CanRestore change after.bus → bus_before change after.bus ≡ same.bus → OnOk result (Follows before Step after)
noted_follows (Ok _) change before same after is made fits back = subst (λ (s : State). Follows s Step after) is (step_follows change same after made fits back)
noted_follows (Err fault) change before same after is made fits back = tt

pub noted_refused : (result : Result Unit EventFault) (before same after : State) → same ≡ before
    → IfErr result (λ fault. (step same ≡ Err fault) × (after ≡ same)) → IfErr result (λ fault. (event_of before Step ≡ Err fault) × (after ≡ before))
noted_refused (Ok _) before same after is refused = tt
noted_refused (Err fault) before same after is refused = (event_is_step before ∙ ap step (sym is) ∙ refused.0, refused.1 ∙ is)
