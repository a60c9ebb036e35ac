use Rattle.std.proofs.Common.{arith}
use Rattle.word_convert.proofs.Whole.{bounded}
use Rattle.word_convert.proofs.run.ended.Goals as goal

pub returns-clause-least : goal.returns-clause-least
returns-clause-least g c = let b = bounded c.args.fault c.requires in omega (arith, b.0, c.tell.ensures)

pub returns-clause-most : goal.returns-clause-most
returns-clause-most g c = let b = bounded c.args.fault c.requires in omega (arith, b.1, c.tell.ensures)

pub returns-clause-two : goal.returns-clause-two
returns-clause-two g c = λ e. let b = bounded c.args.fault c.requires in b.2 (omega (arith, e, c.tell.ensures))
