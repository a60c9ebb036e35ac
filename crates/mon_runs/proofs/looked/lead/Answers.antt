use Rattle.std.proofs.Common.{◌≡◌, ◌+◌, ◌-◌, suc, refl, sym, ap, ◌∙◌, arith}
use Rattle.model.specs.Step.{step}
use Rattle.law_sessions.proofs.Runs.{after_steps-zero}
use Rattle.mon_runs.specs.Looked.{Place, why_of_step}
use Rattle.mon_runs.proofs.Counts.{steps_more}
use Rattle.mon_runs.proofs.LookedRuns.{looked-begin, looked-ends, looked-goes, looked-over}
use Rattle.mon_runs.proofs.looked.lead.Goals as goal

pub loop-init : goal.loop-init
loop-init c = record {
  small = omega arith;
  made = sym (after_steps-zero step c.args.session.now);
  left = looked-begin _ _ _ _ _;
  watches = refl;
  changes = refl;
}

pub returns-in-Some-clause-steps : goal.returns-in-Some-clause-steps
returns-in-Some-clause-steps c = steps_more c.loop.did c.make_step-made.result.did c.args.session.now c.loop.session c.make_step-made.new.session
    c.loop.invariant.made c.make_step-made.ensures.steps

pub returns-in-Some-clause-run : goal.returns-in-Some-clause-run
returns-in-Some-clause-run c =
    let n = c.args.limit - (c.loop.counter + 1) in
    let some : c.args.limit - c.loop.counter ≡ suc n = omega (arith, c.loop-test.true) in
    let p : Place = (c.loop.session, c.loop.stops.breaks.items) in
    let why = c.make_step-made.ensures.why ∙ ap (λ w. why_of_step w.items c.args.goal c.args.until p) c.loop.invariant.watches in
    looked-ends c.args.stops.now.watches.items c.args.goal c.args.until (c.args.limit - c.loop.counter) n c.loop.did c.make_step-made.result.did
    c.make_step-made.result.from
    p (c.make_step-made.new.session, c.make_step-made.new.stops.breaks.items) _ c.make_step-made.result.why _
    c.loop.invariant.left some c.make_step-made.ensures.did c.make_step-made.ensures.from why c.make_step-made.ensures.after c.in-Some.is

pub returns-clause-run : goal.returns-clause-run
returns-clause-run c =
    let none : c.args.limit - c.loop.counter ≡ 0 = omega (arith, c.loop-test.false) in
    looked-over c.args.stops.now.watches.items c.args.goal c.args.until (c.args.limit - c.loop.counter) c.loop.did
    (c.loop.session, c.loop.stops.breaks.items) _ c.loop.invariant.left none

pub loop-preserved : goal.loop-preserved
loop-preserved c =
    let n = c.args.limit - (c.loop.counter + 1) in
    let some : c.args.limit - c.loop.counter ≡ suc n = omega (arith, c.loop-test.true) in
    let p : Place = (c.loop.session, c.loop.stops.breaks.items) in
    let why = c.make_step-made.ensures.why ∙ ap (λ w. why_of_step w.items c.args.goal c.args.until p) c.loop.invariant.watches in
    record {
      small = omega (arith, c.loop.invariant.small);
      made = steps_more c.loop.did c.make_step-made.result.did c.args.session.now c.loop.session c.make_step-made.new.session c.loop.invariant.made
          c.make_step-made.ensures.steps;
      left = looked-goes c.args.stops.now.watches.items c.args.goal c.args.until (c.args.limit - c.loop.counter) n c.loop.did
          c.make_step-made.result.did c.make_step-made.result.from
          p (c.make_step-made.new.session, c.make_step-made.new.stops.breaks.items) c.make_step-made.result.why _
          c.loop.invariant.left some c.make_step-made.ensures.did c.make_step-made.ensures.from why c.make_step-made.ensures.after c.in_default.is;
      watches = c.make_step-made.ensures.watches ∙ c.loop.invariant.watches;
      changes = c.make_step-made.ensures.changes ∙ c.loop.invariant.changes;
    }
