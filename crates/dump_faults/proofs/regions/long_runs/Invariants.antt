use Rattle.std.proofs.Common.{◌≡◌, filter, take}
use Rattle.dump_faults.specs.Regions.{is_long}
use Rattle.dump_faults.proofs.regions.long_runs.Given as goal

abbrev pub invariant-loop-run : goal.invariant-loop-run
invariant-loop-run l = l.long.items ≡ filter is_long (take l.run-index l.runs)
