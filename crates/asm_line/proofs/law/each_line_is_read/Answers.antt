use Rattle.asm_line.proofs.GrammarIsRead.{each_line}
use Rattle.asm_line.proofs.law.each_line_is_read.Goals as goal

pub returns : goal.returns
returns c = each_line c.expressions_are_longest.ensures c.one_expression.ensures
