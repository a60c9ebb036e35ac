use Rattle.std.proofs.Common.{◌≡◌, ◌++◌, drop}
use Rattle.trace_rows.specs.Records.{lines_text}
use Rattle.trace_rows.proofs.lcov.push_runs.Given as goal

abbrev pub invariant-loop-line : goal.invariant-loop-line
invariant-loop-line l = l.text.items ++ lines_text l.tally l.rows l.file (drop l.line-index l.lines) ≡ l.initial.text.items
    ++ lines_text l.tally l.rows l.file l.lines
