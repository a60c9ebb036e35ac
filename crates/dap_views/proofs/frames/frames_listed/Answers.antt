use Rattle.std.proofs.Common.{arith}
use Rattle.dap_views.proofs.Paging.{all_paged, next_paged}
use Rattle.dap_views.specs.Frames.{frame_shown}
use Rattle.dap_views.proofs.frames.frames_listed.Goals as goal

pub loop-frame-init : goal.loop-frame-init
loop-frame-init c = c.new-page.ensures

pub loop-frame-preserved : goal.loop-frame-preserved
loop-frame-preserved c =
    let f = frame_shown c.args.places.now c.args.source.now.files.now c.args.source.now.counting in
    next_paged f c.args.asked c.args.frames.now c.loop-frame.frame-index _ _ (omega (arith, c.loop-frame-test.true))
    (c.with-page.ensures _ _ _ c.loop-frame.invariant c.frame_shown.ensures)

pub returns : goal.returns
returns c =
    let f = frame_shown c.args.places.now c.args.source.now.files.now c.args.source.now.counting in
    c.build.ensures _ _ (all_paged f c.args.asked c.args.frames.now c.loop-frame.frame-index c.loop-frame.page
    (omega (arith, c.loop-frame-test.false)) c.loop-frame.invariant)
