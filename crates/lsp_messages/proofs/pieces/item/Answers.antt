use Rattle.lsp_messages.proofs.pieces.item.Goals as goal

pub returns : goal.returns
returns c text told key labelled detailed placed = c.build.ensures _
    (c.text-3.ensures _ _ (c.text-2.ensures _ _ (c.count.ensures _ (c.text.ensures _ _ c.new.ensures detailed)) labelled) placed)
