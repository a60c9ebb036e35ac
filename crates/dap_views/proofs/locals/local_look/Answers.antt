use Rattle.dap_views.proofs.locals.local_look.Goals as goal

pub returns : goal.returns
returns c = c.look_body.ensures _ c.value_of.ensures
