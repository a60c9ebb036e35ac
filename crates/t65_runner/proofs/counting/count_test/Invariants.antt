use Rattle.std.proofs.Common.{◌≡◌, ◌-◌}
use Rattle.t65_runner.specs.Counting.{counted_by, counted_in, counted_to_failure}
use Rattle.t65_runner.specs.RangeValues.{count_of, number_before, seed_of, values_at}
use Rattle.t65_runner.specs.Start.{fresh}
use Rattle.t65_runner.proofs.counting.count_test.Given as goal
use Rattle.t65_runner.specs.Passes.{rows_seen}

abbrev pub invariant-loop-n : goal.invariant-loop-n
invariant-loop-n l = record {
  back : l.session ≡ fresh l.map l.image;
  number : l.number ≡ number_before (seed_of l.row.choice) l.n;
  left : counted_in (values_at l.row.ranges l.row.choice) (counted_by (rows_seen l.rows) (fresh l.map l.image))
      (counted_to_failure (rows_seen l.rows) (fresh l.map l.image)) l.failed (l.n-end - l.n) l.n l.tally
      ≡ counted_in (values_at l.row.ranges l.row.choice) (counted_by (rows_seen l.rows) (fresh l.map l.image))
      (counted_to_failure (rows_seen l.rows) (fresh l.map l.image)) l.failed (count_of l.row.ranges l.row.choice) 0 l.fn.tally;
}
