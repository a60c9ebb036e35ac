use Rattle.std.proofs.Common.{◌∙◌, List, ap, arith, map, sym}
use Rattle.std.proofs.lemmas.Result.{IfOk-weaker}
use Rattle.std.proofs.lemmas.Simd.{map-map}
use Rattle.dap_messages.specs.SeenAnswers.{SeenItem}
use Rattle.dap_views.proofs.Paging.{all_paged, next_paged}
use Rattle.dap_views.specs.Locals.{local_item, seen_local}
use Rattle.dap_views.specs.Pages.{page_of}
use Rattle.dap_views.specs.declared.locals.FrameLocal.{FrameLocal}
use Rattle.dap_views.proofs.locals.locals_listed.Goals as goal

pub loop-local-init : goal.loop-local-init
loop-local-init c = c.new-page.ensures

pub loop-local-preserved : goal.loop-local-preserved
loop-local-preserved c =
    let f = λ (local : FrameLocal). local_item c.args.session.now.current.bus.memory (seen_local local) in
    next_paged f c.args.asked c.args.locals.now c.loop-local.local-index _ _ (omega (arith, c.loop-local-test.true))
    (c.with-page.ensures _ _ _ c.loop-local.invariant c.local_item.ensures)

pub returns : goal.returns
returns c =
    let memory = c.args.session.now.current.bus.memory in
    let f = λ (local : FrameLocal). local_item memory (seen_local local) in
    let built = c.build.ensures _ _ (all_paged f c.args.asked c.args.locals.now c.loop-local.local-index c.loop-local.page
    (omega (arith, c.loop-local-test.false)) c.loop-local.invariant) in
    IfOk-weaker c.build.result _ _
    (λ v is. is ∙ ap (λ (all : List SeenItem). page_of c.args.asked all) (sym (map-map (local_item memory) seen_local c.args.locals.now))) built
