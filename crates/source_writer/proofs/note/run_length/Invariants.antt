use Rattle.std.proofs.Common.{◌≡◌, ◌+◌}
use Rattle.source_forms.specs.Runs.{run_length}
use Rattle.source_writer.proofs.note.run_length.Given as goal

abbrev pub invariant-loop-left : goal.invariant-loop-left
invariant-loop-left l = record {
  found : run_length l.cells l.marks l.byte l.most l.address ≡ l.count + run_length l.cells l.marks l.byte l.left (l.address + l.count);
  size : l.count + l.left ≡ l.most;
}

abbrev pub decreases-loop-left : goal.decreases-loop-left
decreases-loop-left l = l.left
