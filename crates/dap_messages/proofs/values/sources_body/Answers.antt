use Rattle.dap_messages.proofs.values.sources_body.Goals as goal

pub returns : goal.returns
returns c = λ ds is. c.list_body.ensures ds is
