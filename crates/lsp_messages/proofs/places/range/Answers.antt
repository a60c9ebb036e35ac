use Rattle.lsp_messages.proofs.places.range.Goals as goal

pub returns : goal.returns
returns c = c.build.ensures _ (c.member-2.ensures _ _ (c.member.ensures _ _ c.new.ensures c.position.ensures) c.position-start.ensures)
