use Rattle.lsp_messages.proofs.pieces.mark.Goals as goal

pub returns : goal.returns
returns c text r said at = c.build.ensures _ (c.word-2.ensures _
    (c.count.ensures _ (c.member.ensures _ _ (c.text.ensures _ _ (c.word.ensures _ c.new.ensures) said) at)))
