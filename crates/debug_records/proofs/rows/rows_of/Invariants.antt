use Rattle.std.proofs.Common.{◌≡◌, ◌++◌, drop}
use Rattle.std.specs.List.{filter_map}
use Rattle.debug_records.specs.Rows.{row_of, rows_of}
use Rattle.debug_records.specs.Views.{info_view}
use Rattle.debug_records.proofs.rows.rows_of.Given as goal

abbrev pub invariant-loop-used : goal.invariant-loop-used
invariant-loop-used l = l.rows.items ++ filter_map (row_of (info_view l.info)) (drop l.used-index l.info.uses.items) ≡ rows_of (info_view l.info)
