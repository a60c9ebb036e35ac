use Rattle.std.proofs.Common.{◌≡◌}
use Rattle.trace_rows.specs.Counts.{counts_below}
use Rattle.trace_rows.proofs.counts.counts_of_labels.Given as goal

abbrev pub invariant-loop-place : goal.invariant-loop-place
invariant-loop-place l = l.counts.items ≡ counts_below l.sites l.tally l.place
