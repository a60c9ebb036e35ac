use Rattle.dap_views.proofs.variables.byte_variable.Goals as goal

pub returns : goal.returns
returns c = c.variable_at.ensures _ c.value_text.ensures
