use Rattle.std.proofs.Common.{◌∙◌, Option, ap, sym}
use Rattle.std.specs.Prelude.{string_bytes}
use Rattle.dap_messages.proofs.Shown.{item_as}
use Rattle.dap_messages.specs.SeenAnswers.{frame_at_line, frame_without_line}
use Rattle.dap_views.proofs.frames.frame_in.Goals as goal

pub returns-in-Some : goal.returns-in-Some
returns-in-Some c = λ w is.
    let frame = c.args.frame in
    rw c.in-Some.is (item_as _ _ _ (λ i. frame_at_line (c.from-id.ensures i) frame.address w (c.shown_line.ensures i) (c.first_column.ensures i)
    (c.as_str.ensures.value i) (c.as_str-in-Some.ensures.value i)) (c.frame_at_line.ensures w is))

pub returns-in-None : goal.returns-in-None
returns-in-None c = λ w is.
    let frame = c.args.frame in
    rw c.in-None.is (item_as _ _ _ (ap (λ n. frame_without_line n frame.address w) c.from-id.ensures) (c.frame_without_line.ensures w is))
