use Rattle.std.proofs.Common.{◌∙◌, sym}
use Rattle.t65_runner.proofs.Counted.{no_call, returned, stuck, unmade}
use Rattle.t65_runner.proofs.counting.count_rows.Goals as goal

pub returns-in_err-count_call-clause-since : goal.returns-in_err-count_call-clause-since
returns-in_err-count_call-clause-since c = λ s since. c.count_call.ensures.since s (c.loop-row.invariant.since s since)

pub returns-then-not-branch-clause-counted : goal.returns-then-not-branch-clause-counted
returns-then-not-branch-clause-counted c =
    c.in_ok-count_call.ensures.same c.if-not-branch.true
    ∙ unmade c.args.values c.args.rows.now c.loop-row.row-index c.loop-row.session c.loop-row.tally c.row-item.result _ c.loop-row-test.true
    c.row-item.is (c.in_ok-count_call.ensures.unmade c.if-not-branch.true) c.loop-row.invariant.left

pub returns-then-not-branch-clause-since : goal.returns-then-not-branch-clause-since
returns-then-not-branch-clause-since c = λ s since. c.count_call.ensures.since s (c.loop-row.invariant.since s since)

pub returns-then-not-is_back-clause-counted : goal.returns-then-not-is_back-clause-counted
returns-then-not-is_back-clause-counted c =
    stuck c.args.values c.args.rows.now c.loop-row.row-index c.loop-row.session c.loop-row.tally c.row-item.result c.count_call.new.session
    c.count_call.new.tally _ c.loop-row-test.true c.row-item.is
    (c.in_ok-count_call.ensures.made c.if-not-branch.false) (sym c.is_back.ensures ∙ c.if-not-is_back.true) c.loop-row.invariant.left

pub returns-then-not-is_back-clause-since : goal.returns-then-not-is_back-clause-since
returns-then-not-is_back-clause-since c = λ s since. c.count_call.ensures.since s (c.loop-row.invariant.since s since)

pub loop-row-preserved : goal.loop-row-preserved
loop-row-preserved c = record {
  left = returned c.args.values c.args.rows.now c.loop-row.row-index c.loop-row.session c.loop-row.tally c.row-item.result c.count_call.new.session
      c.count_call.new.tally _ c.loop-row-test.true c.row-item.is
      (c.in_ok-count_call.ensures.made c.if-not-branch.false) (sym c.is_back.ensures ∙ c.if-not-is_back.false) c.loop-row.invariant.left;
  since = λ s since. c.count_call.ensures.since s (c.loop-row.invariant.since s since);
  stops = c.count_call.ensures.stops;
}

pub returns-clause-counted : goal.returns-clause-counted
returns-clause-counted c = sym (no_call c.args.values c.args.rows.now c.loop-row.row-index c.loop-row.session c.loop-row.tally c.loop-row-test.false)
    ∙ c.loop-row.invariant.left
