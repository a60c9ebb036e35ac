use Rattle.std.proofs.Common.{◌≡◌, drop}
use Rattle.papertape.specs.Writing.{cuts}
use Rattle.papertape.proofs.piece.Piece.next.Given as goal

abbrev pub invariant-loop-address : goal.invariant-loop-address
invariant-loop-address l = cuts l.from 0 (drop l.from l.cells) ≡ cuts l.address 0 (drop l.address l.cells)
