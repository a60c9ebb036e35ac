use Rattle.std.proofs.Common.{◌≡◌, ◌+◌, ◌≤◌, ◌++◌, length}
use Rattle.source_forms.specs.Rows.{stretch}
use Rattle.source_writer.proofs.stretch.stretch.Given as goal

abbrev pub invariant-loop-left : goal.invariant-loop-left
invariant-loop-left l = record {
  found : stretch l.cells l.marks l.kind l.most l.address ≡ l.bytes.items ++ stretch l.cells l.marks l.kind l.left l.at;
  place : l.at ≡ l.address + length l.bytes.items;
  within : l.at ≤ length l.cells;
  count : length l.bytes.items + l.left ≡ l.most;
}

abbrev pub decreases-loop-left : goal.decreases-loop-left
decreases-loop-left l = l.left
