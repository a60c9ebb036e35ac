use Rattle.std.proofs.Common.{arith}
use Rattle.t65_failures.proofs.StepByStep.{no_step_left, no_text_left, one_step_more, one_text_more}
use Rattle.t65_failures.proofs.steps.push_each_step.Goals as goal

pub loop-preserved : goal.loop-preserved
loop-preserved c = record {
  text = one_text_more _ _ _ _ _ _ _ _ (omega arith) c.in_ok-push_step.ensures.session c.in_ok-push_step.ensures.text c.loop.invariant.text;
  session = one_step_more _ _ _ _ _ (omega arith) c.in_ok-push_step.ensures.session c.loop.invariant.session;
}

pub returns-clause-text : goal.returns-clause-text
returns-clause-text c = no_text_left _ _ _ _ _ (omega arith) c.loop.invariant.text

pub returns-clause-session : goal.returns-clause-session
returns-clause-session c = no_step_left _ _ _ (omega arith) c.loop.invariant.session
