use Rattle.std.proofs.Common.{◌≡◌, ◌≤◌, drop, length, map, reverse}
use Rattle.model.specs.TapeText.{runs}
use Rattle.word_info.specs.Facts.{range_of_run}
use Rattle.word_info.proofs.ranges.ranges_of.Given as goal

abbrev pub invariant-loop-address : goal.invariant-loop-address
invariant-loop-address l = record {
  inside : l.address ≤ length l.cells;
  later : reverse l.ranges.items ≡ map range_of_run (runs l.address (drop l.address l.cells));
}

abbrev pub decreases-loop-address : goal.decreases-loop-address
decreases-loop-address l = l.address
