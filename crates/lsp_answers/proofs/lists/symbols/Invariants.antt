use Rattle.lsp_answers.proofs.DefinedSteps.{AreDefined}
use Rattle.lsp_answers.specs.Lists.{symbol_of}
use Rattle.lsp_answers.specs.Texts.{text_view}
use Rattle.lsp_answers.proofs.lists.symbols.Given as goal

abbrev pub invariant-loop-one : goal.invariant-loop-one
invariant-loop-one l = AreDefined (symbol_of (text_view l.text)) l.one-items l.one-index l.found
