use Rattle.std.proofs.Common.{◌≡◌, ◌++◌, length}
use Rattle.trace_rows.specs.Records.{lines_from}
use Rattle.trace_rows.proofs.lcov.lines_of_file.Given as goal

abbrev pub invariant-loop-left : goal.invariant-loop-left
invariant-loop-left l = l.lines.items ++ lines_from l.rows l.file l.line l.left ≡ lines_from l.rows l.file 0 l.rows

abbrev pub decreases-loop-left : goal.decreases-loop-left
decreases-loop-left l = length l.left
