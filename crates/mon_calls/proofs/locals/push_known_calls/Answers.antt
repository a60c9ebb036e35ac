use Rattle.std.proofs.Common.{◌≡◌, ◌∙◌, ◌++◌, List, subst}
use Rattle.std.specs.Prelude.{OnOk}
use Rattle.c_frames.specs.declared.walk.Frame.{Frame}
use Rattle.mon_calls.specs.Locals.{asked_by}
use Rattle.mon_calls.proofs.locals.push_known_calls.Goals as goal

pub returns : goal.returns
returns c =
    let memory = c.args.session.now.current.bus.memory in
    subst (λ (fs : List Frame). OnOk c.push_asked.result (c.push_asked.new.text.items ≡ c.args.text.now.items
    ++ asked_by c.args.tables.now memory c.args.places.now fs c.args.number)) (c.as_slice.ensures.value ∙ c.in_ok-frames.ensures) c.push_asked.ensures
