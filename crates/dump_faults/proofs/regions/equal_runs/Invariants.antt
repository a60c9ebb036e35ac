use Rattle.std.proofs.Common.{◌≡◌, ◌≤◌, drop, length, reverse}
use Rattle.dump_faults.specs.Regions.{equal_runs}
use Rattle.dump_faults.proofs.regions.equal_runs.Given as goal

abbrev pub invariant-loop-address : goal.invariant-loop-address
invariant-loop-address l = record {
  inside : l.address ≤ length l.cells;
  later : reverse l.runs.items ≡ equal_runs l.address (drop l.address l.cells);
}

abbrev pub decreases-loop-address : goal.decreases-loop-address
decreases-loop-address l = l.address
