use Rattle.std.proofs.Common.{◌≡◌, None, drop}
use Rattle.debug_records.specs.Rows.{best_of}
use Rattle.debug_records.proofs.rows.best_of.Given as goal

abbrev pub invariant-loop-row : goal.invariant-loop-row
invariant-loop-row l = record {
  rest : best_of l.wanted l.address None l.rows ≡ best_of l.wanted l.address l.best (drop l.row-index l.rows);
}
