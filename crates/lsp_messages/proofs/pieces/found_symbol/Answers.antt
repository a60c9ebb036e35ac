use Rattle.lsp_messages.proofs.pieces.found_symbol.Goals as goal

pub returns : goal.returns
returns c text p named at = c.build.ensures _ (c.text.ensures _ _ (c.member.ensures _ _ (c.count.ensures _ c.new.ensures) at) named)
