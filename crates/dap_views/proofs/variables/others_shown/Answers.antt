use Rattle.dap_views.proofs.variables.others_shown.Goals as goal

pub returns : goal.returns
returns c = c.variables_body.ensures _ (c.build.ensures _ _ (c.listed-page.ensures _ c.new.ensures))
