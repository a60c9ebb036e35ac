use Rattle.std.proofs.Common.{◌≤◌}
use Rattle.source_map.proofs.Pieces.{Left}
use Rattle.source_map.proofs.debugged.pieces_of.Given as goal

abbrev pub invariant-loop-place : goal.invariant-loop-place
invariant-loop-place l = record {
  few : l.place ≤ 65536;
  left : Left (record { profile = l.profile; image = l.image }) l.rows l.pieces.items l.place;
}
