use Rattle.std.proofs.Common.{◌≡◌, ◌++◌, drop, map}
use Rattle.trace_rows.specs.SourceLines.{lines_behind, lines_by, listed}
use Rattle.trace_rows.proofs.lines.lines_by.Given as goal

abbrev pub invariant-loop-row : goal.invariant-loop-row
invariant-loop-row l = map listed l.lines.items ++ lines_behind l.places.sources l.before (drop l.row-index l.places.lines) ≡ lines_by l.places
