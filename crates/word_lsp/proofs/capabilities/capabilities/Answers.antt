use Rattle.word_lsp.proofs.capabilities.capabilities.Goals as goal

pub returns : goal.returns
returns c = c.build-2.ensures _ (c.member-2.ensures _ _ (c.member.ensures _ _ c.new.ensures c.served.ensures)
    (c.build.ensures _ (c.word.ensures _ c.new-2.ensures)))
