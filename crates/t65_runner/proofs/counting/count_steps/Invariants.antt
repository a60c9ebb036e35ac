use Rattle.std.proofs.Common.{◌≡◌, ◌-◌}
use Rattle.model.specs.State.{State}
use Rattle.t65_runner.specs.Counting.{counted_at, steps_counted}
use Rattle.t65_runner.specs.Start.{IsSince}
use Rattle.t65_runner.proofs.counting.count_steps.Given as goal

abbrev pub invariant-loop-did : goal.invariant-loop-did
invariant-loop-did l = record {
  left : steps_counted l.awaited (l.limit - l.did) (counted_at l.session l.tally) ≡ steps_counted l.awaited l.limit (counted_at l.fn.session l.fn.tally);
  since : (s : State) → IsSince s l.fn.session → IsSince s l.session;
  stops : l.session.breaks ≡ l.fn.session.breaks;
}
