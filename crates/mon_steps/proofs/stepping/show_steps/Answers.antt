use Rattle.std.proofs.Common.{◌≡◌, ◌+◌, ◌-◌, ◌++◌, suc, ap, ◌∙◌, arith}
use Rattle.mon_session.specs.Course.{course_of}
use Rattle.mon_steps.specs.RunLines.{goes_on, ran, stand_of}
use Rattle.mon_steps.proofs.Chains.{run_none, run_then}
use Rattle.mon_steps.specs.RunTexts.{one_step_text}
use Rattle.mon_steps.proofs.Rows.{text-begin, text-end, text-go, text-over}
use Rattle.mon_steps.proofs.Stepped.{kept-none, kept-then, steps-begin, steps-end, steps-go, steps-over}
use Rattle.mon_steps.proofs.stepping.show_steps.Goals as goal

pub loop-init : goal.loop-init
loop-init c = record { course = run_none _; left = steps-begin _ _ _; text = text-begin _ _ _ _ _; watches = kept-none c.args.mon.now }

pub loop-preserved : goal.loop-preserved
loop-preserved c =
    let n = c.args.count - (c.loop.counter + 1) in
    let some : c.args.count - c.loop.counter ≡ suc n = omega (arith, c.loop-test.true) in
    let s = stand_of c.loop.mon in
    let same = c.loop.invariant.watches.0 in
    record {
      course = run_then _ (course_of c.loop.mon) _ c.loop.invariant.course c.show_step.ensures.course;
      left = steps-go _ n _ s _ _ _ c.loop.invariant.left some
          (c.in_ok-show_step.ensures.stand ∙ ap (λ w. ran 1 w.items s) same)
          (c.in_ok-show_step.ensures.on ∙ ap (λ w. goes_on w.items s) same) c.if-not-branch.false;
      text = text-go _ n _ _ s _ _ _ _ _ c.loop.invariant.text some
          (c.in_ok-show_step.ensures.stand ∙ ap (λ w. ran 1 w.items s) same)
          (c.in_ok-show_step.ensures.on ∙ ap (λ w. goes_on w.items s) same) c.if-not-branch.false
          (c.in_ok-show_step.ensures.text
          ∙ (λ i. c.loop.mon.text.items ++ one_step_text (c.loop.invariant.watches.0 i).items (c.loop.invariant.watches.2 i) s));
      watches = kept-then c.args.mon.now c.loop.mon c.show_step.new.mon c.loop.invariant.watches c.show_step.ensures.watches;
    }

pub returns-in_err-show_step-clause-course : goal.returns-in_err-show_step-clause-course
returns-in_err-show_step-clause-course c =
    run_then _ (course_of c.loop.mon) _ c.loop.invariant.course c.show_step.ensures.course

pub returns-then-not-branch-clause-course : goal.returns-then-not-branch-clause-course
returns-then-not-branch-clause-course c =
    run_then _ (course_of c.loop.mon) _ c.loop.invariant.course c.show_step.ensures.course

pub returns-then-not-branch-clause-stand : goal.returns-then-not-branch-clause-stand
returns-then-not-branch-clause-stand c =
    let n = c.args.count - (c.loop.counter + 1) in
    let some : c.args.count - c.loop.counter ≡ suc n = omega (arith, c.loop-test.true) in
    let s = stand_of c.loop.mon in
    let same = c.loop.invariant.watches.0 in
    steps-end _ n _ s _ _ _ c.loop.invariant.left some
    (c.in_ok-show_step.ensures.stand ∙ ap (λ w. ran 1 w.items s) same)
    (c.in_ok-show_step.ensures.on ∙ ap (λ w. goes_on w.items s) same) c.if-not-branch.true

pub returns-clause-stand : goal.returns-clause-stand
returns-clause-stand c =
    steps-over _ _ _ _ c.loop.invariant.left (omega (arith, c.loop-test.false))

pub returns-then-not-branch-clause-text : goal.returns-then-not-branch-clause-text
returns-then-not-branch-clause-text c =
    let n = c.args.count - (c.loop.counter + 1) in
    let some : c.args.count - c.loop.counter ≡ suc n = omega (arith, c.loop-test.true) in
    let s = stand_of c.loop.mon in
    let same = c.loop.invariant.watches.0 in
    text-end _ n _ _ s _ _ _ _ c.loop.invariant.text some
    (c.in_ok-show_step.ensures.on ∙ ap (λ w. goes_on w.items s) same) c.if-not-branch.true
    (c.in_ok-show_step.ensures.text
    ∙ (λ i. c.loop.mon.text.items ++ one_step_text (c.loop.invariant.watches.0 i).items (c.loop.invariant.watches.2 i) s))

pub returns-clause-text : goal.returns-clause-text
returns-clause-text c =
    text-over _ _ _ _ _ _ c.loop.invariant.text (omega (arith, c.loop-test.false))
