use Rattle.std.proofs.Common.{◌≡◌, map, drop}
use Rattle.std.specs.List.{concat}
use Rattle.papertape.specs.Feeding.{fed, nothing_fed}
use Rattle.papertape.proofs.law.read_each.Given as goal

abbrev pub invariant-loop-piece : goal.invariant-loop-piece
invariant-loop-piece l = fed l.reader (concat (map (λ piece. piece.now) (drop l.piece-index l.pieces)))
    ≡ fed nothing_fed (concat (map (λ piece. piece.now) l.pieces))
