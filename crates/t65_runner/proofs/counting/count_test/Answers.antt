use Rattle.std.proofs.Common.{◌∙◌, ◌+◌, ◌-◌, ℕ, sym, ap, arith}
use Rattle.t65_runner.specs.Counting.{counted_by, counted_in, counted_to_failure, is_last, test_counted}
use Rattle.t65_runner.specs.Passes.{rows_seen}
use Rattle.t65_runner.specs.RangeValues.{seed_of, values_at}
use Rattle.t65_runner.specs.Start.{fresh}
use Rattle.t65_runner.specs.declared.range_values.Values.{Values}
use Rattle.t65_runner.proofs.Counted.{last_values, next_values, no_values}
use Rattle.t65_runner.proofs.Firsts.{later, seeded, values_here}
use Rattle.t65_runner.proofs.counting.count_test.Goals as goal

pub loop-n-init : goal.loop-n-init
loop-n-init c = record {
  back = c.requires;
  number = seeded c.args.row.now.choice _ c.seed_of-number.ensures;
  left = ap (λ (k : ℕ). counted_in (values_at c.args.row.now.ranges c.args.row.now.choice)
      (counted_by (rows_seen c.args.rows.now) (fresh c.args.map c.args.image.now))
      (counted_to_failure (rows_seen c.args.rows.now) (fresh c.args.map c.args.image.now)) c.args.failed k 0 c.args.tally.now)
      (omega (arith, c.count_of-n-end.ensures));
}

pub returns-then-is_last-clause-counted : goal.returns-then-is_last-clause-counted
unfolding test_counted
returns-then-is_last-clause-counted c =
    let here = values_here c.args.row.now.ranges c.args.row.now.choice c.loop-n.n c.loop-n.number c.values_by-values.result c.values_by-values.ensures
    c.loop-n.invariant.number in
    c.in_ok-count_to_failure.ensures.counted
    ∙ (ap (λ (v : Values). counted_to_failure (rows_seen c.args.rows.now) (fresh c.args.map c.args.image.now) v c.loop-n.tally) here
    ∙ (sym (last_values (values_at c.args.row.now.ranges c.args.row.now.choice)
    (counted_by (rows_seen c.args.rows.now) (fresh c.args.map c.args.image.now))
    (counted_to_failure (rows_seen c.args.rows.now) (fresh c.args.map c.args.image.now)) c.args.failed
    (c.count_of-n-end.result - c.loop-n.n) (c.count_of-n-end.result - (c.loop-n.n + 1)) c.loop-n.n c.loop-n.tally (omega arith)
    (sym (ap (λ (v : Values). is_last c.args.failed v) here) ∙ (sym c.is_last.ensures ∙ c.if-is_last.true)))
    ∙ c.loop-n.invariant.left))

pub loop-n-preserved : goal.loop-n-preserved
loop-n-preserved c =
    let here = values_here c.args.row.now.ranges c.args.row.now.choice c.loop-n.n c.loop-n.number c.values_by-values.result c.values_by-values.ensures
    c.loop-n.invariant.number in
    let counted = c.in_ok-count_values.ensures.counted ∙ ap (λ (v : Values).
    counted_by (rows_seen c.args.rows.now) (fresh c.args.map c.args.image.now) v c.loop-n.tally) here in
    record {
      back = c.in_ok-count_values.ensures.back;
      number = later (seed_of c.args.row.now.choice) c.loop-n.n c.loop-n.number _ c.loop-n.invariant.number c.four_later-number.ensures;
      left = ap (counted_in (values_at c.args.row.now.ranges c.args.row.now.choice)
          (counted_by (rows_seen c.args.rows.now) (fresh c.args.map c.args.image.now))
          (counted_to_failure (rows_seen c.args.rows.now) (fresh c.args.map c.args.image.now)) c.args.failed
          (c.count_of-n-end.result - (c.loop-n.n + 1)) (c.loop-n.n + 1)) counted
          ∙ (next_values (values_at c.args.row.now.ranges c.args.row.now.choice)
          (counted_by (rows_seen c.args.rows.now) (fresh c.args.map c.args.image.now))
          (counted_to_failure (rows_seen c.args.rows.now) (fresh c.args.map c.args.image.now)) c.args.failed
          (c.count_of-n-end.result - c.loop-n.n) (c.count_of-n-end.result - (c.loop-n.n + 1)) c.loop-n.n c.loop-n.tally (omega arith)
          (sym (ap (λ (v : Values). is_last c.args.failed v) here) ∙ (sym c.is_last.ensures ∙ c.if-is_last.false))
          ∙ c.loop-n.invariant.left);
    }

pub returns-clause-counted : goal.returns-clause-counted
unfolding test_counted
returns-clause-counted c = sym (no_values (values_at c.args.row.now.ranges c.args.row.now.choice)
    (counted_by (rows_seen c.args.rows.now) (fresh c.args.map c.args.image.now))
    (counted_to_failure (rows_seen c.args.rows.now) (fresh c.args.map c.args.image.now)) c.args.failed (c.count_of-n-end.result - c.loop-n.n)
    c.loop-n.n c.loop-n.tally (omega arith)) ∙ c.loop-n.invariant.left
