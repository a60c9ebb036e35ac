use Rattle.std.proofs.Common.{◌≡◌, ◌+◌, ◌≤◌, length}
use Rattle.source_forms.specs.Labels.{flags_from, no_flags}
use Rattle.source_writer.proofs.flags.flags_of.Given as goal

abbrev pub invariant-loop-left : goal.invariant-loop-left
invariant-loop-left l = record {
  found : flags_from l.profile l.cells l.marks l.left l.address l.flags.items ≡ flags_from l.profile l.cells l.marks 65536 0 no_flags;
  size : length l.flags.items ≡ 65536;
  near : l.address + l.left ≤ 131072;
  few : l.left ≤ 65536;
}

abbrev pub decreases-loop-left : goal.decreases-loop-left
decreases-loop-left l = l.left
