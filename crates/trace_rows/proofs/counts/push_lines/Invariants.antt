use Rattle.std.proofs.Common.{◌≡◌, ◌++◌, length}
use Rattle.trace_rows.specs.Counts.{line_rows, with_lines}
use Rattle.trace_rows.proofs.counts.push_lines.Given as goal

abbrev pub invariant-loop-lines : goal.invariant-loop-lines
invariant-loop-lines l = l.text.items ++ line_rows l.tally l.lines ≡ with_lines l.sites l.tally l.fn.text.items

abbrev pub decreases-loop-lines : goal.decreases-loop-lines
decreases-loop-lines l = length l.lines
