use Rattle.std.proofs.Common.{◌≡◌, ◌++◌}
use Rattle.std.specs.List.{flat_map}
use Rattle.lsp_answers.proofs.FlatSteps.{left}
use Rattle.lsp_answers.specs.Markdown.{marked}
use Rattle.lsp_answers.proofs.markdown.push_words.Given as goal

abbrev pub invariant-loop-byte : goal.invariant-loop-byte
invariant-loop-byte l = l.text.items ++ left marked l.words l.byte-index ≡ l.initial.text.items ++ flat_map marked l.words
