use Rattle.emission.specs.Gathering.{with_pieces}
use Rattle.emission.proofs.emit.LineBytes.add_operand.Goals as goal

pub returns-in-Some : goal.returns-in-Some
unfolding with_pieces
returns-in-Some c = rw (c.in-Some.is, ← c.number_at.ensures, ← c.operand.ensures) c.add.ensures
