use Rattle.std.proofs.Common.{◌≡◌, take}
use Rattle.model.specs.State.{State}
use Rattle.debugger.specs.Replay.{AllFollow, state_after}
use Rattle.debugger.proofs.trail.replay.Given as goal

abbrev pub invariant-loop-index : goal.invariant-loop-index
invariant-loop-index l = (base : State) → AllFollow base l.events.items → l.fn.machine ≡ state_after base (take l.from l.events.items)
    → l.machine ≡ state_after base (take l.index l.events.items)
