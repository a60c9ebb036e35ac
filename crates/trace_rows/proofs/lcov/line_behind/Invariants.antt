use Rattle.std.proofs.Common.{◌≡◌, None, drop}
use Rattle.trace_rows.specs.Records.{line_behind}
use Rattle.trace_rows.proofs.lcov.line_behind.Given as goal

abbrev pub invariant-loop-row : goal.invariant-loop-row
invariant-loop-row l = record {
  rest : line_behind l.file l.line None l.rows ≡ line_behind l.file l.line l.best (drop l.row-index l.rows);
}
