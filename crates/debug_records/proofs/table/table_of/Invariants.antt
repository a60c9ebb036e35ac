use Rattle.std.proofs.Common.{drop}
use Rattle.debug_records.proofs.Extents.{Left}
use Rattle.debug_records.proofs.table.table_of.Given as goal

abbrev pub invariant-loop-row : goal.invariant-loop-row
invariant-loop-row l = Left l.wanted l.rows (drop l.row-index l.rows) l.table.items
