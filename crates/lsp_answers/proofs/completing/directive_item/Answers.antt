use Rattle.lsp_answers.proofs.completing.directive_item.Goals as goal

pub returns : goal.returns
returns c = rw (← c.as_bytes.ensures.value) (c.item_of.ensures _ c.phrase.ensures)
