use Rattle.std.proofs.Common.{◌∙◌, List, Option, ap}
use Rattle.std.proofs.lemmas.Result.{IfOk-weaker}
use Rattle.c_frames.specs.declared.walk.Frame.{Frame}
use Rattle.call_frames.specs.Tables.{frames_at}
use Rattle.dap_views.specs.Locals.{frame_numbered, in_frame}
use Rattle.model.specs.declared.registers.Regs.{Regs}
use Rattle.dap_views.proofs.locals.locals_by.Goals as goal

pub returns : goal.returns
returns c =
    let t = c.args.tables.now in
    let frames = c.as_slice.ensures.value ∙ c.in_ok-frames.ensures ∙ ap (λ (regs : Regs). frames_at t regs) c.regs.ensures in
    let frame = c.frame_numbered-frame.ensures ∙ ap (λ (all : List Frame). frame_numbered all c.args.id) frames in
    IfOk-weaker c.in_frame.result _ _
    (λ list is. is ∙ ap (λ (f : Option Frame). in_frame c.args.mon.now.places t f) frame) c.in_frame.ensures
