use Rattle.std.proofs.Common.{◌≡◌, [], drop}
use Rattle.model.specs.State.{State}
use Rattle.t65_runner.specs.Counting.{counted_at, rows_counted}
use Rattle.t65_runner.specs.Start.{IsSince}
use Rattle.t65_runner.proofs.counting.count_rows.Given as goal
use Rattle.t65_runner.specs.Passes.{rows_seen}

abbrev pub invariant-loop-row : goal.invariant-loop-row
invariant-loop-row l = record {
  left : rows_counted l.values (drop l.row-index (rows_seen l.rows)) (counted_at l.session l.tally)
      ≡ rows_counted l.values (rows_seen l.rows) (counted_at l.fn.session l.fn.tally);
  since : (s : State) → IsSince s l.fn.session → IsSince s l.session;
  stops : l.session.breaks ≡ [];
}
