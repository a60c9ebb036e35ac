use Rattle.std.proofs.Common.{◌≡◌, take}
use Rattle.std.specs.Prelude.{map}
use Rattle.trace_rows.specs.Counts.{visits_of}
use Rattle.trace_rows.proofs.counts.visits_of_labels.Given as goal

abbrev pub invariant-loop-label : goal.invariant-loop-label
invariant-loop-label l = l.counts.items ≡ map (visits_of l.tally) (take l.label-index l.sites.labels.items)
