use Rattle.asm_line.proofs.ReadIsGrammar.{each_read}
use Rattle.asm_line.proofs.law.each_read_line_is_a_line.Goals as goal

pub returns : goal.returns
returns c = each_read c.expressions_are_longest.ensures
