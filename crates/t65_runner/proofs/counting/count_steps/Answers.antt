use Rattle.std.proofs.Common.{◌≡◌, ◌∙◌, ◌+◌, ◌-◌, ℕ, ap, arith, refl, sym}
use Rattle.t65_runner.specs.Counting.{counted_at, steps_counted}
use Rattle.t65_runner.proofs.Counted.{comes, no_step, waits}
use Rattle.t65_runner.proofs.counting.count_steps.Goals as goal

pub loop-did-init : goal.loop-did-init
loop-did-init c = record {
  left =
      let whole : c.args.limit - 0 ≡ c.args.limit = omega arith in
      ap (λ (k : ℕ). steps_counted c.args.awaited k (counted_at c.args.session.now c.args.tally.now)) whole;
  since = λ s since. since;
  stops = refl;
}

pub returns-then-is_due_in-clause-counted : goal.returns-then-is_due_in-clause-counted
returns-then-is_due_in-clause-counted c =
    sym c.loop-did.invariant.left
    ∙ comes c.args.awaited (counted_at c.loop-did.session c.loop-did.tally) (c.args.limit - c.loop-did.did) (c.args.limit - c.loop-did.did - 1)
    (omega arith) (sym c.is_due_in.ensures ∙ c.if-is_due_in.true)

pub returns-then-not-count_step-clause-counted : goal.returns-then-not-count_step-clause-counted
returns-then-not-count_step-clause-counted c =
    let left = c.args.limit - (c.loop-did.did + 1) in
    sym c.loop-did.invariant.left
    ∙ (waits c.args.awaited (counted_at c.loop-did.session c.loop-did.tally) (c.args.limit - c.loop-did.did) left (omega arith)
    (sym c.is_due_in.ensures ∙ c.if-is_due_in.false)
    ∙ c.count_step.ensures.end c.if-not-count_step.true (steps_counted c.args.awaited left))

pub returns-then-not-count_step-clause-since : goal.returns-then-not-count_step-clause-since
returns-then-not-count_step-clause-since c = λ s since. c.count_step.ensures.since s (c.loop-did.invariant.since s since)

pub returns-then-not-count_step-clause-stops : goal.returns-then-not-count_step-clause-stops
returns-then-not-count_step-clause-stops c = c.count_step.ensures.stops ∙ c.loop-did.invariant.stops

pub loop-did-preserved : goal.loop-did-preserved
loop-did-preserved c = record {
  left =
      let left = c.args.limit - (c.loop-did.did + 1) in
      sym (c.count_step.ensures.on c.if-not-count_step.false (steps_counted c.args.awaited left))
      ∙ (sym (waits c.args.awaited (counted_at c.loop-did.session c.loop-did.tally) (c.args.limit - c.loop-did.did) left (omega arith)
      (sym c.is_due_in.ensures ∙ c.if-is_due_in.false))
      ∙ c.loop-did.invariant.left);
  since = λ s since. c.count_step.ensures.since s (c.loop-did.invariant.since s since);
  stops = c.count_step.ensures.stops ∙ c.loop-did.invariant.stops;
}

pub returns-clause-counted : goal.returns-clause-counted
returns-clause-counted c = sym c.loop-did.invariant.left ∙ no_step c.args.awaited (counted_at c.loop-did.session c.loop-did.tally)
    (c.args.limit - c.loop-did.did) (omega arith)
