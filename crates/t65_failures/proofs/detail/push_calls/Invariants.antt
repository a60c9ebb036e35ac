use Rattle.std.proofs.Common.{◌≡◌, [], drop}
use Rattle.t65_failures.specs.Failures.{told_in}
use Rattle.t65_failures.proofs.detail.push_calls.Given as goal
use Rattle.t65_runner.specs.Passes.{rows_seen}

abbrev pub invariant-loop-row : goal.invariant-loop-row
invariant-loop-row l = record {
  text : l.text ≡ l.fn.text;
  told : told_in l.places l.ranges l.values (drop l.row-index (rows_seen l.rows)) l.session
      ≡ told_in l.places l.ranges l.values (rows_seen l.rows) l.fn.session;
  stops : l.session.breaks ≡ [];
}
