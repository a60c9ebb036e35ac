use Rattle.std.proofs.Common.{◌≡◌, ◌++◌, drop}
use Rattle.source_notes.specs.Words.{concat}
use Rattle.source_notes.proofs.words.concat.Given as goal

abbrev pub invariant-loop-piece : goal.invariant-loop-piece
invariant-loop-piece l = l.words.items ++ concat (drop l.piece-index l.pieces) ≡ concat l.pieces
