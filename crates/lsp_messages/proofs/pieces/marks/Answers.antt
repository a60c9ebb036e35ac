use Rattle.lsp_messages.proofs.pieces.marks.Goals as goal

pub returns : goal.returns
returns c ms are = c.build.ensures _ (c.word.ensures _ (c.member.ensures _ _ c.new.ensures are))
