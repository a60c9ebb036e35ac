use Rattle.std.proofs.Common.{◌≡◌, ◌+◌, drop}
use Rattle.mon_runs.specs.Recall.{made_again}
use Rattle.mon_runs.proofs.recall.make_again.Given as goal

abbrev pub invariant-loop-index : goal.invariant-loop-index
invariant-loop-index l = made_again l.events l.fn.session
    ≡ (l.index + (made_again (drop l.index l.events) l.session).0, (made_again (drop l.index l.events) l.session).1)
