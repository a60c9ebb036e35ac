use Rattle.std.proofs.Common.{◌≡◌, false, not, eqb, get_or, take}
use Rattle.std.specs.List.{list_any}
use Rattle.model.specs.State.{State}
use Rattle.mon_runs.specs.Noted.{AreBytesAt}
use Rattle.mon_runs.proofs.recall.is_changed.Given as goal

abbrev pub invariant-loop-index : goal.invariant-loop-index
invariant-loop-index l = (after : State) → AreBytesAt l.watched after l.bytes
    → list_any (λ a. not (eqb (get_or l.session.current.bus.memory a 0) (get_or after.bus.memory a 0))) (take l.index l.watched) ≡ false
