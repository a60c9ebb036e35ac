use Rattle.std.proofs.Common.{◌≡◌, ◌∙◌, ◌+◌, ◌-◌, ℕ, ap, arith, refl, sym}
use Rattle.model.specs.declared.run_end.Why.TheVariants.{Limit}
use Rattle.t65_runner.specs.Requests.{waited}
use Rattle.t65_runner.specs.declared.requests.Wait.TheVariants.{Ended}
use Rattle.t65_runner.proofs.Waits.{comes, no_step_left, waits}
use Rattle.t65_runner.proofs.requests.wait_for.Goals as goal

pub loop-did-init : goal.loop-did-init
loop-did-init c = record {
  left =
      let whole : c.args.limit - 0 ≡ c.args.limit = omega arith in
      ap (λ (k : ℕ). waited c.args.awaited 0 k c.args.session.now) whole;
  since = λ s since. since;
  stops = refl;
}

pub returns-then-is_due-clause-waited : goal.returns-then-is_due-clause-waited
returns-then-is_due-clause-waited c =
    sym c.loop-did.invariant.left
    ∙ comes c.args.awaited c.loop-did.did c.loop-did.session (c.args.limit - c.loop-did.did) (c.args.limit - (c.loop-did.did + 1)) (omega arith)
    (sym c.is_due.ensures ∙ c.if-is_due.true)

pub returns-in-Some-clause-waited : goal.returns-in-Some-clause-waited
returns-in-Some-clause-waited c =
    let left = c.args.limit - (c.loop-did.did + 1) in
    sym c.loop-did.invariant.left
    ∙ (waits c.args.awaited c.loop-did.did c.loop-did.session (c.args.limit - c.loop-did.did) left (omega arith) (sym c.is_due.ensures ∙ c.if-is_due.false)
    ∙ c.in-Some.ensures.end (waited c.args.awaited (c.loop-did.did + 1) left))

pub returns-in-Some-clause-since : goal.returns-in-Some-clause-since
returns-in-Some-clause-since c = λ s since. c.wait_step.ensures.since s (c.loop-did.invariant.since s since)

pub loop-did-preserved : goal.loop-did-preserved
loop-did-preserved c = record {
  left =
      let left = c.args.limit - (c.loop-did.did + 1) in
      sym (c.wait_step.ensures.on c.in_default.is (waited c.args.awaited (c.loop-did.did + 1) left))
      ∙ (sym (waits c.args.awaited c.loop-did.did c.loop-did.session (c.args.limit - c.loop-did.did) left (omega arith)
      (sym c.is_due.ensures ∙ c.if-is_due.false))
      ∙ c.loop-did.invariant.left);
  since = λ s since. c.wait_step.ensures.since s (c.loop-did.invariant.since s since);
  stops = c.wait_step.ensures.stops ∙ c.loop-did.invariant.stops;
}

pub returns-clause-waited : goal.returns-clause-waited
returns-clause-waited c =
    let all : c.loop-did.did ≡ c.args.limit = omega (arith, c.loop-did.auto.did-end) in
    sym c.loop-did.invariant.left
    ∙ (no_step_left c.args.awaited c.loop-did.did c.loop-did.session (c.args.limit - c.loop-did.did) (omega arith)
    ∙ ap (λ (k : ℕ). (Ended (record { did = k; why = Limit }), c.loop-did.session)) all)
