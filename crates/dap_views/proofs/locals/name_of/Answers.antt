use Rattle.dap_views.proofs.Lossy.{grown}
use Rattle.dap_views.proofs.locals.name_of.Goals as goal

pub returns : goal.returns
returns c = c.as_text.ensures _ (grown _ _ _ _ c.new-text.ensures.items c.push_shown-grown.ensures)
