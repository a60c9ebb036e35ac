use Rattle.std.proofs.Common.{◌≡◌, ◌+◌, ◌≤◌, length}
use Rattle.reached.specs.Reached.{with_run}
use Rattle.reached.proofs.letters.flag_run.Given as goal

abbrev pub invariant-loop-left : goal.invariant-loop-left
invariant-loop-left l = record {
  set : with_run l.letters.items l.left l.at ≡ with_run l.fn.letters.items l.count l.address;
  size : length l.letters.items ≡ 65536;
  near : l.at + l.left ≤ 65536;
}

abbrev pub decreases-loop-left : goal.decreases-loop-left
decreases-loop-left l = l.left
