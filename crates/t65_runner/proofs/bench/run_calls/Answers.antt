use Rattle.t65_runner.proofs.Firsts.{all_pass, one_fails, one_passes}
use Rattle.t65_runner.proofs.bench.run_calls.Goals as goal

pub returns-in_err-run_call-clause-since : goal.returns-in_err-run_call-clause-since
returns-in_err-run_call-clause-since c = λ s since. c.run_call.ensures.since s (c.loop-row.invariant.since s since)

pub returns-then-not-branch-clause-passes : goal.returns-then-not-branch-clause-passes
returns-then-not-branch-clause-passes c =
    one_fails c.args.values c.args.rows.now c.loop-row.row-index c.loop-row.session c.row-item.result _ c.loop-row-test.true c.row-item.is
    (c.in_ok-run_call.ensures.fails c.if-not-branch.true) c.loop-row.invariant.left

pub returns-then-not-branch-clause-since : goal.returns-then-not-branch-clause-since
returns-then-not-branch-clause-since c = λ s since. c.run_call.ensures.since s (c.loop-row.invariant.since s since)

pub loop-row-preserved : goal.loop-row-preserved
loop-row-preserved c = record {
  left = one_passes c.args.values c.args.rows.now c.loop-row.row-index c.loop-row.session c.row-item.result _ _ c.loop-row-test.true c.row-item.is
      (c.in_ok-run_call.ensures.passes c.if-not-branch.false) c.loop-row.invariant.left;
  since = λ s since. c.run_call.ensures.since s (c.loop-row.invariant.since s since);
  stops = c.run_call.ensures.stops;
}

pub returns-clause-passes : goal.returns-clause-passes
returns-clause-passes c = all_pass c.args.values c.args.rows.now c.loop-row.row-index c.loop-row.session _ c.loop-row-test.false c.loop-row.invariant.left
