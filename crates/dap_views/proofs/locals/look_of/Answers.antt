use Rattle.std.proofs.Common.{◌∙◌, Option, Some, ap, option_map, sym}
use Rattle.c_frames.specs.declared.locals.Local.{Local}
use Rattle.dap_views.specs.Locals.{local_look}
use Rattle.dap_views.proofs.locals.look_of.Goals as goal

pub returns : goal.returns
returns c =
    ap (λ d. Some d) c.in_ok-shown.ensures
    ∙ ap (λ (found : Option Local). option_map (local_look c.args.session.now.current.bus.memory) found) (sym c.in-Some.is)
