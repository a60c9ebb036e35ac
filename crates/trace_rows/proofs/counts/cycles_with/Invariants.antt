use Rattle.std.proofs.Common.{◌≡◌, drop}
use Rattle.trace_rows.specs.Counts.{cycles_with}
use Rattle.trace_rows.proofs.counts.cycles_with.Given as goal

abbrev pub invariant-loop-line : goal.invariant-loop-line
invariant-loop-line l = record {
  rest : cycles_with l.tally l.first l.lines ≡ cycles_with l.tally l.cycles (drop l.line-index l.lines);
}
