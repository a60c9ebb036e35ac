use Rattle.std.proofs.Common.{◌≡◌, ◌++◌, drop}
use Rattle.debug_records.specs.Rows.{rows_at}
use Rattle.debug_records.proofs.rows.rows_at.Given as goal

abbrev pub invariant-loop-row : goal.invariant-loop-row
invariant-loop-row l = l.found.items ++ rows_at (drop l.row-index l.rows) l.address ≡ rows_at l.rows l.address
