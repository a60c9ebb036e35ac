use Rattle.std.proofs.Common.{◌≡◌, ◌+◌, ◌-◌, length}
use Rattle.mon_runs.specs.Recall.{last_stop, recalled}
use Rattle.mon_runs.proofs.recall.back_to_stop.Given as goal

abbrev pub invariant-loop-undone : goal.invariant-loop-undone
invariant-loop-undone l = record {
  held : length l.session.earlier ≡ l.held - l.undone;
  left : last_stop l.stops l.fn.session
      ≡ (l.undone + (recalled l.stops (l.held - l.undone) l.session).0, (recalled l.stops (l.held - l.undone) l.session).1);
}
