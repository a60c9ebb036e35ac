use Rattle.std.proofs.Common.{◌≡◌, ◌++◌, length}
use Rattle.std.specs.List.{flat_map}
use Rattle.model.specs.TextLines.{lines_of}
use Rattle.word_mend.specs.RecordMending.{right_line, right_lines}
use Rattle.word_mend.proofs.records.right_lines.Given as goal

abbrev pub invariant-loop-rest : goal.invariant-loop-rest
invariant-loop-rest l = l.out.items ++ flat_map (right_line l.form) (lines_of l.rest) ≡ right_lines l.form l.text

abbrev pub decreases-loop-rest : goal.decreases-loop-rest
decreases-loop-rest l = length l.rest
