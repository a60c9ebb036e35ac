use Rattle.std.proofs.Common.{◌≡◌, take, map}
use Rattle.assembler.specs.Assembly.{source_lines}
use Rattle.trace_rows.specs.SourceLines.{lines_of, listed}
use Rattle.trace_rows.proofs.lines.lines_of.Given as goal

abbrev pub invariant-loop-index : goal.invariant-loop-index
invariant-loop-index l = map listed l.lines.items ≡ lines_of (take l.index (source_lines l.assembly))
