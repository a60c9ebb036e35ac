use Rattle.std.proofs.Common.{◌≡◌, drop}
use Rattle.trace_rows.specs.Records.{visits_from}
use Rattle.trace_rows.proofs.lcov.visits_of.Given as goal

abbrev pub invariant-loop-row : goal.invariant-loop-row
invariant-loop-row l = record {
  rest : visits_from l.tally l.file l.line 0 l.rows ≡ visits_from l.tally l.file l.line l.most (drop l.row-index l.rows);
}
