use Rattle.lsp_messages.proofs.pieces.ready.Goals as goal

pub returns : goal.returns
returns c text r named at = c.build.ensures _ (c.member.ensures _ _ (c.text.ensures _ _ c.new.ensures named) at)
