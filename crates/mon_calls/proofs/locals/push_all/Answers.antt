use Rattle.std.proofs.Common.{◌∙◌}
use Rattle.mon_calls.proofs.Told.{from_nothing, told_if_any}
use Rattle.mon_calls.proofs.locals.push_all.Goals as goal

pub returns : goal.returns
returns c =
    told_if_any c.push_if_any.result _ c.args.text.now.items c.push_if_any.new.text.items c.as_slice.result.now _
    (c.as_slice.ensures.value ∙ from_nothing c.new-found.result.items c.push_frames.new.text.items _ c.new-found.ensures.items c.in_ok-push_frames.ensures)
    c.push_if_any.ensures
