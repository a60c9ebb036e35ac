use Rattle.lsp_messages.proofs.places.location.Goals as goal

pub returns : goal.returns
returns c r at = c.build.ensures _ (c.word.ensures _ (c.member.ensures _ _ c.new.ensures at))
