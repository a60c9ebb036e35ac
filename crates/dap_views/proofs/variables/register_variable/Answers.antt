use Rattle.dap_views.proofs.variables.register_variable.Goals as goal

pub returns : goal.returns
returns c = c.variable.ensures _ c.register_text.ensures
