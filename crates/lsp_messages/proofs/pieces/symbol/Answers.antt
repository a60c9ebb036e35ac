use Rattle.lsp_messages.proofs.pieces.symbol.Goals as goal

pub returns : goal.returns
returns c text r s named at selected = c.build.ensures _ (c.member-2.ensures _ _
    (c.member.ensures _ _ (c.text.ensures _ _ (c.count.ensures _ c.new.ensures) named) at) selected)
