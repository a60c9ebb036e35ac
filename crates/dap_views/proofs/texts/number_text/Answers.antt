use Rattle.dap_views.proofs.texts.number_text.Goals as goal

pub returns : goal.returns
returns c = c.format.ensures.ok
