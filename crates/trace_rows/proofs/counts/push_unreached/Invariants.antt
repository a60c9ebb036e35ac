use Rattle.std.proofs.Common.{◌≡◌, ◌++◌, drop}
use Rattle.std.specs.Prelude.{codes}
use Rattle.trace_rows.specs.Counts.{unreached_rows, with_unreached}
use Rattle.trace_rows.proofs.Tables.{with_rest}
use Rattle.trace_rows.proofs.counts.push_unreached.Given as goal

abbrev pub invariant-loop-line : goal.invariant-loop-line
invariant-loop-line l = with_rest l.is_first l.text.items (l.text.items ++ codes "\nnever reached\n")
    (unreached_rows l.tally (drop l.line-index l.sites.lines.items)) ≡ with_unreached l.sites l.tally l.initial.text.items
