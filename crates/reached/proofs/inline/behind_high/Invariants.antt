use Rattle.std.proofs.Common.{◌≡◌, ◌+◌, ◌≤◌}
use Rattle.reached.specs.Reached.{behind_high}
use Rattle.reached.proofs.inline.behind_high.Given as goal

abbrev pub invariant-loop-left : goal.invariant-loop-left
invariant-loop-left l = record {
  found : behind_high l.cells 65536 l.address ≡ behind_high l.cells l.left l.at;
  near : l.at + l.left ≤ 131072;
  few : l.left ≤ 65536;
}

abbrev pub decreases-loop-left : goal.decreases-loop-left
decreases-loop-left l = l.left
