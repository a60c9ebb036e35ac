use Rattle.std.proofs.Common.{◌≡◌, ◌++◌, length}
use Rattle.model.specs.TextLines.{lines_of}
use Rattle.source_notes.specs.Lines.{texts_of}
use Rattle.source_notes.proofs.lines.every_line.Given as goal

abbrev pub invariant-loop-rest : goal.invariant-loop-rest
invariant-loop-rest l = texts_of l.lines.items ++ lines_of l.rest ≡ lines_of l.source

abbrev pub decreases-loop-rest : goal.decreases-loop-rest
decreases-loop-rest l = length l.rest
