use Rattle.std.proofs.Common.{◌≡◌, ◌≤◌, drop, length}
use Rattle.model.specs.TextLines.{lines_of}
use Rattle.source_faults.specs.Views.{found_all}
use Rattle.warnings.specs.Placed.{placed_lines}
use Rattle.warnings.proofs.Placing.{so_on}
use Rattle.warnings.proofs.placement.place_lines.Given as goal

abbrev pub invariant-loop-one : goal.invariant-loop-one
invariant-loop-one l = record {
  exact : so_on l.profile l.lines.items l.rest l.one-index l.found ≡ placed_lines l.profile (lines_of l.source) (found_all l.found);
  left : lines_of l.rest ≡ drop l.one-index (lines_of l.source);
  few : length l.lines.items ≤ l.one-index;
  short : length l.rest ≤ length l.source;
}
