use Rattle.std.proofs.Common.{◌≡◌, [], drop}
use Rattle.model.specs.State.{State}
use Rattle.t65_runner.specs.Passes.{all_passed, rows_seen}
use Rattle.t65_runner.specs.Start.{IsSince}
use Rattle.t65_runner.proofs.bench.run_calls.Given as goal

abbrev pub invariant-loop-row : goal.invariant-loop-row
invariant-loop-row l = record {
  left : all_passed l.values (drop l.row-index (rows_seen l.rows)) l.session
      ≡ all_passed l.values (rows_seen l.rows) l.fn.session;
  since : (s : State) → IsSince s l.fn.session → IsSince s l.session;
  stops : l.session.breaks ≡ [];
}
