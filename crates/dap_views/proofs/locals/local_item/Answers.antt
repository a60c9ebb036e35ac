use Rattle.dap_views.proofs.locals.local_item.Goals as goal

pub returns : goal.returns
returns c = c.local_at.ensures _ _ c.name_of.ensures c.value_of.ensures
