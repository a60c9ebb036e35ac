use Rattle.std.proofs.Common.{◌≡◌, ◌+◌, ◌≤◌, length}
use Rattle.model.specs.Layout.{most_names}
use Rattle.source_forms.specs.Labels.{table_from, no_labels}
use Rattle.source_writer.proofs.table.table_of.Given as goal

abbrev pub invariant-loop-left : goal.invariant-loop-left
invariant-loop-left l = record {
  found : table_from l.profile l.cells l.marks l.flags l.left l.names l.address l.table.items
      ≡ table_from l.profile l.cells l.marks l.flags 65536 most_names 0 no_labels;
  size : length l.table.items ≡ 65536;
  near : l.address + l.left ≤ 131072;
  few : l.left ≤ 65536;
}

abbrev pub decreases-loop-left : goal.decreases-loop-left
decreases-loop-left l = l.left
