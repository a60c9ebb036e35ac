use Rattle.lsp_messages.proofs.pieces.highlight.Goals as goal

pub returns : goal.returns
returns c r at = c.build.ensures _ (c.member.ensures _ _ (c.count.ensures _ c.new.ensures) at)
