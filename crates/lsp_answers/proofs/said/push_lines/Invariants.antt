use Rattle.std.proofs.Common.{◌≡◌, ◌++◌}
use Rattle.std.specs.List.{flat_map}
use Rattle.lsp_answers.proofs.SaidSteps.{lines_left, said_line}
use Rattle.lsp_answers.proofs.said.push_lines.Given as goal

abbrev pub invariant-loop-one : goal.invariant-loop-one
invariant-loop-one l = l.words.items ++ lines_left l.uses l.one-index ≡ l.initial.words.items ++ flat_map said_line l.uses
