use Rattle.std.proofs.Common.{◌∙◌, List, ap, arith, length, ℕ}
use Rattle.std.specs.Borrow.{Bor}
use Rattle.std.proofs.lemmas.List.{take_all}
use Rattle.t65_reader.specs.declared.row.Row.{Row}
use Rattle.t65_reader.specs.RowText.{row_seen}
use Rattle.t65_runner.specs.Passes.{passed, rows_seen}
use Rattle.t65_runner.proofs.Firsts.{run_ends, run_goes_on, run_whole}
use Rattle.t65_runner.proofs.bench.run_to_failure.Goals as goal

pub returns-in_err-run_call-clause-since : goal.returns-in_err-run_call-clause-since
returns-in_err-run_call-clause-since c = λ s since. c.run_call.ensures.since s (c.loop-index.invariant.since s since)

pub returns-then-not-branch-clause-run : goal.returns-then-not-branch-clause-run
returns-then-not-branch-clause-run c =
    run_ends c.args.values c.args.rows.now c.loop-index.index c.loop-index.session c.index-rows-index.result _ c.loop-index-test.true c.index-rows-index.is
    (ap (λ (r : Bor (ℕ × Row)). passed c.args.values (row_seen r).1.call c.loop-index.session) c.index-rows-index.is
    ∙ c.in_ok-run_call.ensures.fails c.if-not-branch.true) c.loop-index.invariant.run

pub returns-then-not-branch-clause-since : goal.returns-then-not-branch-clause-since
returns-then-not-branch-clause-since c = λ s since. c.run_call.ensures.since s (c.loop-index.invariant.since s since)

pub loop-index-preserved : goal.loop-index-preserved
loop-index-preserved c = record {
  run = run_goes_on c.args.values c.args.rows.now c.loop-index.index c.loop-index.session c.index-rows-index.result _ _ c.loop-index-test.true
      c.index-rows-index.is
      (ap (λ (r : Bor (ℕ × Row)). passed c.args.values (row_seen r).1.call c.loop-index.session) c.index-rows-index.is
      ∙ c.in_ok-run_call.ensures.passes c.if-not-branch.false) c.loop-index.invariant.run;
  since = λ s since. c.run_call.ensures.since s (c.loop-index.invariant.since s since);
  stops = c.run_call.ensures.stops;
}

pub returns-clause-run : goal.returns-clause-run
returns-clause-run c =
    ap (λ (r : List (Bor (ℕ × Row))). rows_seen r) (take_all (length c.args.rows.now) c.args.rows.now (omega arith))
    ∙ run_whole c.args.values c.args.rows.now c.loop-index.index c.loop-index.session _ c.loop-index-test.false c.loop-index.invariant.run
