use Rattle.named_source.proofs.Tables.{Fills}
use Rattle.named_source.proofs.names.table_of.Given as goal

abbrev pub invariant-loop-index : goal.invariant-loop-index
invariant-loop-index l = Fills l.names.names l.table.items l.index
