use Rattle.dap_views.proofs.variables.flag_variable.Goals as goal

pub returns : goal.returns
returns c = c.plain_variable.ensures _ c.bit_text.ensures
