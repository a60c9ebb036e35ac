use Rattle.std.proofs.Common.{◌≡◌, ◌+◌, ◌≤◌}
use Rattle.source_forms.specs.Labels.{flagged_within}
use Rattle.source_writer.proofs.table.flagged_within.Given as goal

abbrev pub invariant-loop-left : goal.invariant-loop-left
invariant-loop-left l = record {
  found : flagged_within l.flags l.reach l.address ≡ flagged_within l.flags l.left l.at;
  near : l.at + l.left ≤ 65535 + 255;
}

abbrev pub decreases-loop-left : goal.decreases-loop-left
decreases-loop-left l = l.left
