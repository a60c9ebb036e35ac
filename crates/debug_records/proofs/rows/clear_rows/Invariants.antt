use Rattle.std.proofs.Common.{◌≡◌, ◌++◌, drop}
use Rattle.debug_records.specs.Rows.{clear_rows}
use Rattle.debug_records.specs.Views.{info_view}
use Rattle.debug_records.proofs.rows.clear_rows.Given as goal

abbrev pub invariant-loop-row : goal.invariant-loop-row
invariant-loop-row l = l.clear.items ++ clear_rows (info_view l.info) (drop l.row-index l.rows) ≡ clear_rows (info_view l.info) l.rows
