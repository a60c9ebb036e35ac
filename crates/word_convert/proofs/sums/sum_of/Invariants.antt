use Rattle.std.proofs.Common.{◌≡◌, ◌≤◌, ◌*◌, take}
use Rattle.std.specs.List.{sum_by}
use Rattle.word_convert.specs.Sums.{cell_value}
use Rattle.word_convert.proofs.sums.sum_of.Given as goal

abbrev pub invariant-loop-cell : goal.invariant-loop-cell
invariant-loop-cell l = record {
  total : l.sum ≡ sum_by cell_value (take l.cell-index l.cells);
  small : l.sum ≤ 255 * l.cell-index;
}
