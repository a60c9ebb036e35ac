use Rattle.std.proofs.Common.{◌≡◌, ◌++◌, length}
use Rattle.model.specs.TextLines.{lines_of}
use Rattle.source_map.specs.Lines.{items_of}
use Rattle.source_map.proofs.texts.lines_of.Given as goal

abbrev pub invariant-loop-rest : goal.invariant-loop-rest
invariant-loop-rest l = items_of l.texts.items ++ lines_of l.rest ≡ lines_of l.fn.text

abbrev pub decreases-loop-rest : goal.decreases-loop-rest
decreases-loop-rest l = length l.rest
