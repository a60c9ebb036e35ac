use Rattle.std.proofs.Common.{◌∙◌, ◌+◌, ◌-◌, sym, ap, arith, ℕ}
use Rattle.t65_runner.specs.Passes.{failed_values, first_failed, first_from, rows_seen}
use Rattle.t65_runner.specs.RangeValues.{seed_of, values_at}
use Rattle.t65_runner.specs.Start.{fresh}
use Rattle.t65_runner.specs.declared.range_values.Values.{Values}
use Rattle.t65_runner.proofs.Firsts.{first_none, first_over, first_some, later, seeded, values_here}
use Rattle.t65_runner.proofs.bench.first_failed.Goals as goal

pub loop-n-init : goal.loop-n-init
loop-n-init c = record {
  back = c.requires;
  number = seeded c.args.row.now.choice _ c.seed_of-number.ensures;
  left = ap (λ (k : ℕ). first_from k 0 (λ n. failed_values (rows_seen c.args.rows.now) (fresh c.args.map c.args.image.now)
      (values_at c.args.row.now.ranges c.args.row.now.choice n))) (omega (arith, c.count_of-n-end.ensures));
}

pub returns-in-Some-clause-failed : goal.returns-in-Some-clause-failed
unfolding first_failed
returns-in-Some-clause-failed c =
    let here = values_here c.args.row.now.ranges c.args.row.now.choice c.loop-n.n c.loop-n.number c.values_by-values.result c.values_by-values.ensures
    c.loop-n.invariant.number in
    sym (first_some (c.count_of-n-end.result - c.loop-n.n) (c.count_of-n-end.result - (c.loop-n.n + 1)) c.loop-n.n
    (λ n. failed_values (rows_seen c.args.rows.now) (fresh c.args.map c.args.image.now) (values_at c.args.row.now.ranges c.args.row.now.choice n))
    c.in-Some.found (omega arith)
    (sym (ap (λ (v : Values). failed_values (rows_seen c.args.rows.now) (fresh c.args.map c.args.image.now) v) here)
    ∙ (sym c.in_ok-failed.ensures.failed ∙ c.in-Some.is)))
    ∙ c.loop-n.invariant.left

pub loop-n-preserved : goal.loop-n-preserved
loop-n-preserved c =
    let here = values_here c.args.row.now.ranges c.args.row.now.choice c.loop-n.n c.loop-n.number c.values_by-values.result c.values_by-values.ensures
    c.loop-n.invariant.number in
    record {
      back = c.in_ok-failed.ensures.back;
      number = later (seed_of c.args.row.now.choice) c.loop-n.n c.loop-n.number _ c.loop-n.invariant.number c.four_later-number.ensures;
      left = first_none (c.count_of-n-end.result - c.loop-n.n) (c.count_of-n-end.result - (c.loop-n.n + 1)) c.loop-n.n
          (λ n. failed_values (rows_seen c.args.rows.now) (fresh c.args.map c.args.image.now)
          (values_at c.args.row.now.ranges c.args.row.now.choice n)) (omega arith)
          (sym (ap (λ (v : Values). failed_values (rows_seen c.args.rows.now) (fresh c.args.map c.args.image.now) v) here)
          ∙ (sym c.in_ok-failed.ensures.failed ∙ c.in_default.is))
          ∙ c.loop-n.invariant.left;
    }

pub returns-clause-failed : goal.returns-clause-failed
unfolding first_failed
returns-clause-failed c = sym (first_over (c.count_of-n-end.result - c.loop-n.n) c.loop-n.n
    (λ n. failed_values (rows_seen c.args.rows.now) (fresh c.args.map c.args.image.now) (values_at c.args.row.now.ranges c.args.row.now.choice n))
    (omega arith)) ∙ c.loop-n.invariant.left
