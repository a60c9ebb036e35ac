use Rattle.std.proofs.Common.{map, take}
use Rattle.dap_views.specs.Locals.{local_item, seen_local}
use Rattle.dap_views.specs.Pages.{IsPage}
use Rattle.dap_views.specs.declared.locals.FrameLocal.{FrameLocal}
use Rattle.dap_views.proofs.locals.locals_listed.Given as goal

abbrev pub invariant-loop-local : goal.invariant-loop-local
invariant-loop-local l = IsPage l.fn.asked
    (map (λ (local : FrameLocal). local_item l.session.current.bus.memory (seen_local local)) (take l.local-index l.locals)) l.page
