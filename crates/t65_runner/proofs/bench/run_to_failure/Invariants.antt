use Rattle.std.proofs.Common.{◌≡◌, ◌++◌, [], drop, take}
use Rattle.model.specs.State.{State}
use Rattle.t65_runner.specs.Passes.{rows_run, rows_seen}
use Rattle.t65_runner.specs.Start.{IsSince}
use Rattle.t65_runner.proofs.bench.run_to_failure.Given as goal

abbrev pub invariant-loop-index : goal.invariant-loop-index
invariant-loop-index l = record {
  run : rows_seen (take l.index l.rows) ++ rows_run l.values (drop l.index (rows_seen l.rows)) l.session
      ≡ rows_run l.values (rows_seen l.rows) l.fn.session;
  since : (s : State) → IsSince s l.fn.session → IsSince s l.session;
  stops : l.session.breaks ≡ [];
}
