use Rattle.std.proofs.Common.{◌≡◌, List, ℕ, Ok}
use Rattle.std.specs.Io.KnownBytes.{Consumes}
use Rattle.papertape.specs.Feeding.{fed, answer_of, nothing_fed}
use Rattle.papertape.proofs.stream.read_each_piece.Given as goal

-- what was told so far was fed, and was not refused
abbrev pub invariant-loop : goal.invariant-loop
invariant-loop g l = (told : List ℕ) × Consumes (g.T.Read.remaining l.fn.tape) (g.T.Read.remaining l.tape) told × (l.reader ≡ fed nothing_fed told)
    × (answer_of l.reader ≡ Ok tt)
