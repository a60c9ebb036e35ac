use Rattle.std.proofs.Common.{◌∙◌, ◌++◌, List, Option, ap, arith, map}
use Rattle.c_frames.specs.declared.locals.Local.{Local}
use Rattle.dap_views.proofs.NamedLocals.{left, named_done, named_more}
use Rattle.dap_views.specs.Locals.{named_if, seen_local}
use Rattle.dap_views.specs.declared.locals.FrameLocal.{FrameLocal}
use Rattle.source_map.specs.Functions.{local_view}
use Rattle.dap_views.proofs.locals.named_locals.Goals as goal

pub loop-index-init : goal.loop-index-init
loop-index-init c = ap (λ (found : List FrameLocal). map seen_local found ++ left c.args.names.now c.args.locals.now 0) c.new-list.ensures.items

pub loop-index-preserved : goal.loop-index-preserved
loop-index-preserved c = named_more c.args.names.now c.args.locals.now c.loop-index.index c.index-names-index.result _ _ _
    (omega (arith, c.loop-index-test.true)) c.requires c.index-names-index.is
    (c.in_ok-push_if.ensures
    ∙ ap (λ (held : Option Local). map seen_local c.loop-index.list.items ++ named_if (local_view c.index-names-index.result) held) c.held_at.ensures)
    c.loop-index.invariant

pub returns : goal.returns
returns c = named_done c.args.names.now c.args.locals.now c.loop-index.index _ _ (omega (arith, c.loop-index-test.false)) c.loop-index.invariant
