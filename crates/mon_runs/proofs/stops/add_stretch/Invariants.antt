use Rattle.std.proofs.Common.{◌≡◌, ◌++◌}
use Rattle.mon_runs.specs.Stops.{addresses, new_among}
use Rattle.mon_runs.proofs.stops.add_stretch.Given as goal

abbrev pub invariant-loop-offset : goal.invariant-loop-offset
invariant-loop-offset l = l.changes.items ≡ l.fn.changes.items ++ new_among l.watches (addresses l.first l.offset)
