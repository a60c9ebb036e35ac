use Rattle.std.proofs.Common.{◌∙◌, Option, Some, ap, option_map, sym}
use Rattle.dap_views.specs.Looks.{look_shown}
use Rattle.dap_views.specs.declared.looks.Look.{Look}
use Rattle.dap_views.proofs.looks.look_at.Goals as goal

pub returns : goal.returns
returns c =
    ap (λ d. Some d) c.in_ok-value.ensures
    ∙ ap (λ (found : Option Look). option_map (look_shown c.args.mon.now.session.current) found) (sym c.in-Some.is ∙ c.look_named.ensures)
