use Rattle.lsp_messages.proofs.places.position.Goals as goal

pub returns : goal.returns
returns c = c.build.ensures _ (c.count-2.ensures _ (c.count.ensures _ c.new.ensures))
