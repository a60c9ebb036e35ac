use Rattle.std.proofs.Common.{◌≡◌, ◌≤◌, is_some, take}
use Rattle.std.specs.List.{count_by}
use Rattle.mon_files.proofs.saving.count_of.Given as goal

abbrev pub invariant-loop-cell : goal.invariant-loop-cell
invariant-loop-cell l = record {
  count : l.count ≡ count_by is_some (take l.cell-index l.cells);
  few : l.count ≤ l.cell-index;
}
