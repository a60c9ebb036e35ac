use Rattle.std.proofs.Common.{◌≡◌, ◌<◌, ◌+◌, ◌-◌, suc, refl, sym, subst, ◌∙◌, arith}
use Rattle.std.specs.Prelude.{IfNone}
use Rattle.model.specs.Step.{step}
use Rattle.law_sessions.proofs.Runs.{after_steps-zero}
use Rattle.mon_runs.proofs.Counts.{steps_more}
use Rattle.mon_runs.proofs.Past.{stretch-begin, stretch-ends, stretch-goes, stretch-over}
use Rattle.mon_runs.proofs.stretches.run_on.Goals as goal

pub loop-init : goal.loop-init
loop-init c = record {
  sum = omega arith;
  made = sym (after_steps-zero step c.args.session.now);
  rest = stretch-begin _ _ _;
  watches = refl;
  changes = refl;
}

pub returns-in-Some-clause-steps : goal.returns-in-Some-clause-steps
returns-in-Some-clause-steps c = steps_more c.loop.did c.make_stretch-made.result.did c.args.session.now c.loop.session
    c.make_stretch-made.new.session c.loop.invariant.made c.make_stretch-made.ensures.steps

pub returns-in-Some-clause-run : goal.returns-in-Some-clause-run
returns-in-Some-clause-run c =
    let n = c.args.count - (c.loop.counter + 1) in
    let some : c.args.count - c.loop.counter ≡ suc n = omega (arith, c.loop-test.true) in
    stretch-ends (c.args.count - c.loop.counter) n c.loop.left c.loop.did c.make_stretch-made.result.did
    (c.loop.session, c.loop.stops.breaks.items) (c.make_stretch-made.new.session, c.make_stretch-made.new.stops.breaks.items) _ c.make_stretch-made.result.why _
    c.loop.invariant.rest some c.make_stretch-made.ensures.did c.make_stretch-made.ensures.why c.make_stretch-made.ensures.after c.in-Some.is

pub returns-clause-run : goal.returns-clause-run
returns-clause-run c =
    let none : c.args.count - c.loop.counter ≡ 0 = omega (arith, c.loop-test.false) in
    stretch-over (c.args.count - c.loop.counter) c.loop.left c.loop.did (c.loop.session, c.loop.stops.breaks.items) _ c.loop.invariant.rest none

pub loop-preserved : goal.loop-preserved
loop-preserved c =
    let n = c.args.count - (c.loop.counter + 1) in
    let some : c.args.count - c.loop.counter ≡ suc n = omega (arith, c.loop-test.true) in
    let made = c.make_stretch-made.result in
    let part : (0 < made.did) × (made.did < c.loop.left) = subst (λ o. IfNone o ((0 < made.did) × (made.did < c.loop.left))) c.in_default.is
    c.make_stretch-made.ensures.part in
    record {
      sum = omega (arith, c.loop.invariant.sum, part.0, part.1);
      made = steps_more c.loop.did c.make_stretch-made.result.did c.args.session.now c.loop.session c.make_stretch-made.new.session
          c.loop.invariant.made c.make_stretch-made.ensures.steps;
      rest = stretch-goes (c.args.count - c.loop.counter) n c.loop.left c.loop.did c.make_stretch-made.result.did
          (c.loop.session, c.loop.stops.breaks.items) (c.make_stretch-made.new.session, c.make_stretch-made.new.stops.breaks.items)
          c.make_stretch-made.result.why _
          c.loop.invariant.rest some c.make_stretch-made.ensures.did c.make_stretch-made.ensures.why c.make_stretch-made.ensures.after c.in_default.is;
      watches = c.make_stretch-made.ensures.watches ∙ c.loop.invariant.watches;
      changes = c.make_stretch-made.ensures.changes ∙ c.loop.invariant.changes;
    }
