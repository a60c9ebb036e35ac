use Rattle.std.proofs.Common.{◌≡◌, ◌+◌, ◌-◌, length, suc, ap, ◌∙◌, arith}
use Rattle.mon_runs.proofs.Found.{length-back_one}
use Rattle.mon_runs.specs.Runs.{gone_back}
use Rattle.mon_runs.proofs.Counts.{gone-none, gone-more}
use Rattle.mon_runs.proofs.Way.{over-begin, over-ends, over-goes, over-over}
use Rattle.mon_runs.proofs.back.back_to_call.Goals as goal

pub loop-undone-init : goal.loop-undone-init
loop-undone-init c = record {
  held = omega arith;
  gone = gone-none c.args.session.now;
  over = over-begin _ _ _;
}

pub returns-then-is_call-clause-undone : goal.returns-then-is_call-clause-undone
returns-then-is_call-clause-undone c =
    let more : suc c.loop-undone.undone ≡ c.loop-undone.undone + 1 = omega arith in
    gone-more c.loop-undone.undone c.args.session.now c.loop-undone.session c.back_by_one.new.session c.loop-undone.invariant.gone c.back_by_one.ensures
    ∙ ap (λ k. gone_back k c.args.session.now) more

pub returns-then-is_call-clause-over : goal.returns-then-is_call-clause-over
returns-then-is_call-clause-over c =
    over-ends _ c.loop-undone.undone _ (c.args.most - (c.loop-undone.undone + 1)) c.loop-undone.session c.back_by_one.new.session _ _
    c.loop-undone.invariant.over (omega (arith, c.loop-undone-test.true)) c.back_by_one.ensures c.is_call.ensures c.if-is_call.true

pub loop-undone-preserved : goal.loop-undone-preserved
loop-undone-preserved c =
    let more : suc c.loop-undone.undone ≡ c.loop-undone.undone + 1 = omega arith in
    let fewer : length c.back_by_one.new.session.earlier ≡ length c.loop-undone.session.earlier - 1 =
    length-back_one c.loop-undone.session c.back_by_one.new.session c.back_by_one.ensures in
    record {
      held = omega (arith, fewer, c.loop-undone.invariant.held, c.loop-undone-test.true, c.requires);
      gone = gone-more c.loop-undone.undone c.args.session.now c.loop-undone.session c.back_by_one.new.session c.loop-undone.invariant.gone
          c.back_by_one.ensures
          ∙ ap (λ k. gone_back k c.args.session.now) more;
      over = over-goes _ c.loop-undone.undone _ (c.args.most - (c.loop-undone.undone + 1)) c.loop-undone.session c.back_by_one.new.session _ _
          c.loop-undone.invariant.over (omega (arith, c.loop-undone-test.true)) c.back_by_one.ensures c.is_call.ensures c.if-is_call.false;
    }

pub returns-clause-over : goal.returns-clause-over
returns-clause-over c =
    over-over _ c.loop-undone.undone _ c.loop-undone.session _ c.loop-undone.invariant.over (omega (arith, c.loop-undone-test.false))
    ∙ ap (λ k. (k, c.loop-undone.session)) (omega (arith, c.loop-undone-test.false, c.loop-undone.auto.undone-end))
