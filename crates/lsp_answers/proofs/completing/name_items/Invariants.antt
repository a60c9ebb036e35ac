use Rattle.lsp_answers.proofs.DefinedSteps.{AreDefined}
use Rattle.lsp_answers.specs.Completion.{name_item}
use Rattle.lsp_answers.specs.Texts.{text_view}
use Rattle.lsp_answers.proofs.completing.name_items.Given as goal

abbrev pub invariant-loop-one : goal.invariant-loop-one
invariant-loop-one l = AreDefined (name_item l.group l.symbols (text_view l.text)) l.one-items l.one-index l.items
