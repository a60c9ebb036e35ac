use Rattle.std.proofs.Common.{◌≡◌, ◌+◌, ◌*◌, ◌≤◌, length}
use Rattle.model.specs.TextLines.{lines_of}
use Rattle.t65_reader.specs.RowText.{points_of}
use Rattle.t65_reader.proofs.text.points_of.Given as goal

abbrev pub invariant-loop-rest : goal.invariant-loop-rest
invariant-loop-rest l = record {
  room : l.points + 4294967295 * length l.rest ≤ 4294967295 * length l.text;
  left : l.points + points_of l.only (lines_of l.rest) ≡ points_of l.only (lines_of l.text);
}

abbrev pub decreases-loop-rest : goal.decreases-loop-rest
decreases-loop-rest l = length l.rest
