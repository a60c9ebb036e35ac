use Rattle.std.proofs.Common.{◌≡◌, ◌+◌, ◌≤◌, length}
use Rattle.model.specs.TextLines.{lines_of}
use Rattle.t65_suites.specs.HeadText.{head_from}
use Rattle.t65_suites.proofs.head.read_head.Given as goal

abbrev pub invariant-loop-rest : goal.invariant-loop-rest
invariant-loop-rest l = record {
  room : l.number + length l.rest ≤ 1 + length l.text;
  left : head_from l.number (lines_of l.rest) ≡ head_from 1 (lines_of l.text);
}

abbrev pub decreases-loop-rest : goal.decreases-loop-rest
decreases-loop-rest l = length l.rest
