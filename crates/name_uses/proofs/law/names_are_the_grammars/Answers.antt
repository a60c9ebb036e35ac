use Rattle.name_uses.proofs.Named.{each_line}
use Rattle.name_uses.proofs.law.names_are_the_grammars.Goals as goal

pub returns : goal.returns
returns c = each_line c.each_read_line_is_a_line.ensures
