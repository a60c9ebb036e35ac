use Rattle.std.proofs.Common.{◌≡◌, ◌-◌, ◌++◌}
use Rattle.std.specs.Prelude.{string_bytes}
use Rattle.model.specs.Run.{after_steps}
use Rattle.t65_failures.specs.Steps.{steps_text}
use Rattle.t65_failures.proofs.steps.push_each_step.Given as goal

abbrev pub invariant-loop : goal.invariant-loop
invariant-loop l = record {
  text : string_bytes l.text ++ steps_text l.places (l.count - l.counter) l.session ≡ string_bytes l.initial.text
      ++ steps_text l.places l.count l.initial.session;
  session : after_steps (l.count - l.counter) l.session ≡ after_steps l.count l.initial.session;
}
