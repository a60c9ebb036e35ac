use Rattle.std.proofs.Common.{◌≡◌, ◌-◌}
use Rattle.t65_runner.specs.Passes.{failed_values, first_from, rows_seen}
use Rattle.t65_runner.specs.RangeValues.{count_of, number_before, seed_of, values_at}
use Rattle.t65_runner.specs.Start.{fresh}
use Rattle.t65_runner.proofs.bench.first_failed.Given as goal

abbrev pub invariant-loop-n : goal.invariant-loop-n
invariant-loop-n l = record {
  back : l.session ≡ fresh l.map l.image;
  number : l.number ≡ number_before (seed_of l.row.choice) l.n;
  left : first_from (l.n-end - l.n) l.n (λ n. failed_values (rows_seen l.rows) (fresh l.map l.image) (values_at l.row.ranges l.row.choice n))
      ≡ first_from (count_of l.row.ranges l.row.choice) 0 (λ n. failed_values (rows_seen l.rows) (fresh l.map l.image) (values_at l.row.ranges l.row.choice n));
}
