use Rattle.lsp_messages.proofs.pieces.edit.Goals as goal

pub returns : goal.returns
returns c r at = c.build.ensures _ (c.member.ensures _ _ (c.word.ensures _ c.new.ensures) at)
