use Rattle.std.proofs.Common.{◌≡◌, ◌+◌, ◌≤◌, length}
use Rattle.model.specs.TextLines.{lines_of}
use Rattle.warnings.specs.Warnings.{cut_off}
use Rattle.warnings.proofs.all_lines.push_cut_off.Given as goal

abbrev pub invariant-loop-rest : goal.invariant-loop-rest
invariant-loop-rest l = record {
  left : cut_off l.profile l.at (lines_of l.rest) ≡ cut_off l.profile l.number (lines_of l.behind);
  same : l.warnings.items ≡ l.fn.warnings.items;
  room : l.at + length l.rest ≤ 4294967295;
}

abbrev pub decreases-loop-rest : goal.decreases-loop-rest
decreases-loop-rest l = length l.rest
