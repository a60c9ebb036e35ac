use Rattle.warnings.proofs.one_line.is_short_operand.Goals as goal

pub returns-in-Direct : goal.returns-in-Direct
returns-in-Direct c = rw c.in-Direct.is c.is_short_direct.ensures
