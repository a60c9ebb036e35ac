use Rattle.std.proofs.Common.{◌≡◌, ◌+◌}
use Rattle.source_forms.specs.Pieces.{room}
use Rattle.source_writer.proofs.piece.room.Given as goal

abbrev pub invariant-loop-left : goal.invariant-loop-left
invariant-loop-left l = record {
  found : room l.flags l.most l.address ≡ l.count + room l.flags l.left (l.address + l.count);
  size : l.count + l.left ≡ l.most;
}

abbrev pub decreases-loop-left : goal.decreases-loop-left
decreases-loop-left l = l.left
