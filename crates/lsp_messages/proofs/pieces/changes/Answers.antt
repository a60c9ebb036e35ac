use Rattle.lsp_messages.proofs.pieces.changes.Goals as goal

pub returns : goal.returns
returns c es are = c.build.ensures _ (c.member-2.ensures _ _ c.new-2.ensures (c.build-changes.ensures _ (c.member.ensures _ _ c.new.ensures are)))
