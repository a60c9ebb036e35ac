use Rattle.std.proofs.Common.{arith, sym, ap, ◌∙◌, ◌≡◌, ◌+◌, ◌-◌, ◌≤◌}
use Rattle.model.specs.Step.{step}
use Rattle.model.specs.Run.{run_end}
use Rattle.law_sessions.proofs.Runs.{after_steps-zero}
use Rattle.debugger.specs.Running.{beyond}
use Rattle.debugger.proofs.Runs.{beyond-end, run_none}
use Rattle.debugger.proofs.Stretches.{IsFurther, goes_further, stops_further}
use Rattle.debugger.proofs.session.Session.run.Goals as goal

pub loop-did-init : goal.loop-did-init
loop-did-init c =
    let all : c.args.count ≡ c.args.count - 0 = omega arith in
    let none = run_end (c.args.count - 0) c.args.self.now in
    let z : none.did ≡ 0 + none.did = omega arith in
    record {
      within = omega arith;
      end = ap (λ n. run_end n c.args.self.now) all ∙ (λ i. record { did = z i; why = none.why });
      after =
          sym (after_steps-zero step _);
    }

pub returns-clause-end : goal.returns-clause-end
returns-clause-end c =
    let none : c.args.count - c.loop-did.did ≡ 0 = omega (arith, c.loop-did-test.false) in
    let all : c.loop-did.did + 0 ≡ c.args.count = omega (arith, c.loop-did-test.false, c.loop-did.invariant.within) in
    sym (c.loop-did.invariant.end ∙ ap (beyond c.loop-did.did) (run_none _ _ none) ∙ beyond-end _ _ _ _ all)

pub loop-did-preserved : goal.loop-did-preserved
loop-did-preserved c =
    let within : c.loop-did.did + c.in-Ok.stretch.steps ≤ c.args.count = omega (arith, c.in-Ok.ensures.within) in
    let before : IsFurther c.args.self.now c.loop-did.self c.args.count c.loop-did.did =
    record { end = c.loop-did.invariant.end; after = c.loop-did.invariant.after } in
    let told = goes_further c.args.self.now c.loop-did.self c.run_on.new.self c.args.count c.loop-did.did c.in-Ok.stretch c.in-None.is within before
    c.in-Ok.ensures.steps in
    record { within = within; end = told.end; after = told.after }

pub returns-in-Some-clause-after : goal.returns-in-Some-clause-after
returns-in-Some-clause-after c =
    let within : c.loop-did.did + c.in-Ok.stretch.steps ≤ c.args.count = omega (arith, c.in-Ok.ensures.within) in
    let before : IsFurther c.args.self.now c.loop-did.self c.args.count c.loop-did.did =
    record { end = c.loop-did.invariant.end; after = c.loop-did.invariant.after } in
    (stops_further c.args.self.now c.loop-did.self c.run_on.new.self c.args.count c.loop-did.did c.in-Ok.stretch c.in-Some.why c.in-Some.is within
    before c.in-Ok.ensures.steps).1
