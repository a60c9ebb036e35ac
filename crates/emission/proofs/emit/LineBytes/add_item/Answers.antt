use Rattle.emission.proofs.emit.LineBytes.add_item.Goals as goal

pub returns-in-Value : goal.returns-in-Value
returns-in-Value c = rw (c.in-Value.is, ← c.number_at.ensures, ← c.byte.ensures) c.add.ensures
