use Rattle.std.proofs.Common.{◌++◌, ◌∙◌, ap}
use Rattle.std.specs.Prelude.{string_bytes}
use Rattle.model.specs.Session.{Session}
use Rattle.t65_runner.specs.Requests.{after_arrival}
use Rattle.t65_failures.specs.Steps.{around_text, arrival_text, steps_text}
use Rattle.t65_failures.proofs.Joined.{four}
use Rattle.t65_failures.proofs.steps.push_around.Goals as goal

pub returns : goal.returns
unfolding around_text
returns c =
    let arrived = c.in_ok-push_entry.ensures.session ∙ ap (after_arrival c.args.signal) c.in_ok-push_each_step.ensures.session in
    let entry = c.in_ok-push_entry.ensures.text ∙ ap (λ (s : Session). string_bytes c.push_each_step.new.text ++ arrival_text c.args.signal s.current)
    arrived in
    let steps = c.in_ok-push_each_step-2.ensures.text ∙ ap (λ (s : Session). string_bytes c.push_entry.new.text
    ++ steps_text c.args.places.now c.args.did s) arrived in
    four _ _ _ _ _ _ _ _ _ c.in_ok-push_str.ensures.bytes c.in_ok-push_each_step.ensures.text entry steps
