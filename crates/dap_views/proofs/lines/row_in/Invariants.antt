use Rattle.std.proofs.Common.{◌≡◌, None, drop}
use Rattle.dap_views.specs.Wanted.{row_from}
use Rattle.dap_views.proofs.lines.row_in.Given as goal

abbrev pub invariant-loop-row : goal.invariant-loop-row
invariant-loop-row l = record {
  rest : row_from l.file l.line None l.rows ≡ row_from l.file l.line l.best (drop l.row-index l.rows);
}
