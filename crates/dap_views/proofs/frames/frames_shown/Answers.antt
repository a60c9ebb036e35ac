use Rattle.std.proofs.Common.{◌∙◌, List, ap, length, map}
use Rattle.std.proofs.lemmas.Result.{IfOk-weaker}
use Rattle.dap_messages.specs.SeenAnswers.{frames_body}
use Rattle.dap_views.specs.Frames.{frame_shown}
use Rattle.dap_views.specs.Pages.{page_of}
use Rattle.dap_views.specs.declared.stack.Frame.{Frame}
use Rattle.dap_views.proofs.frames.frames_shown.Goals as goal

pub returns : goal.returns
returns c =
    let source = c.args.source.now in
    let f = frame_shown c.args.mon.now.places source.files.now source.counting in
    let same = c.as_slice-all.ensures.value ∙ c.in_ok-frames.ensures in
    let count = ap (λ (frames : List Frame). length frames) same in
    let built = c.frames_body.ensures _ c.frames_listed-shown.ensures in
    IfOk-weaker c.frames_body.result _ _
    (λ v is. is ∙ (λ i. frames_body (page_of c.args.asked (map f (same i))) (count i))) built
