use Rattle.lsp_hints.proofs.values.signature.Goals as goal

pub returns : goal.returns
returns c text has = c.build.ensures _ (c.text.ensures _ _ c.new.ensures has)
