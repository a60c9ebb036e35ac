use Rattle.std.proofs.Common.{◌∙◌, List, ap, map}
use Rattle.dap_views.specs.Locals.{scope_number, seen_local}
use Rattle.dap_views.specs.declared.locals.FrameLocal.{FrameLocal}
use Rattle.dap_views.proofs.locals.scope_numbered.Goals as goal

pub returns : goal.returns
returns c = (
  map seen_local c.in_ok-locals.locals.items,
  c.in_ok-locals.ensures,
  c.scope_number.ensures ∙ ap (λ (all : List FrameLocal). scope_number c.args.id (map seen_local all)) c.as_slice.ensures.value,
)
