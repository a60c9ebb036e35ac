use Rattle.lsp_messages.proofs.pieces.shown.Goals as goal

pub returns : goal.returns
returns c = c.build.ensures _ (c.count.ensures _ (c.word.ensures _ c.new.ensures))
