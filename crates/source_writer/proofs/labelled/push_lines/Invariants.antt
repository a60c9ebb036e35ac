use Rattle.std.proofs.Common.{◌≡◌, ◌+◌, ◌≤◌, ◌++◌, false}
use Rattle.model.specs.Layout.{most_names}
use Rattle.source_writer.proofs.LabelledGoing.{text_from}
use Rattle.source_writer.proofs.labelled.push_lines.Given as goal

abbrev pub invariant-loop-left : goal.invariant-loop-left
invariant-loop-left l = record {
  written : l.out.items ++ text_from l.profile l.cells l.marks l.flags l.table l.left l.place.names l.place.address l.place.ends ≡ l.fn.out.items
      ++ text_from l.profile l.cells l.marks l.flags l.table 65536 most_names 0 false;
  near : l.place.address + l.left ≤ 131072;
  few : l.left ≤ 65536;
}

abbrev pub decreases-loop-left : goal.decreases-loop-left
decreases-loop-left l = l.left
