use Rattle.lsp_messages.proofs.pieces.hover.Goals as goal

pub returns : goal.returns
returns c text r said at = c.build.ensures _ (c.member-2.ensures _ _
    (c.member.ensures _ _ c.new-2.ensures (c.build-contents.ensures _ (c.text.ensures _ _ (c.word.ensures _ c.new.ensures) said))) at)
