use Rattle.t65_failures.proofs.Joined.{joined}
use Rattle.t65_failures.proofs.steps.push_undone.Goals as goal

pub returns-clause-text : goal.returns-clause-text
returns-clause-text c = joined _ _ _ _ _ c.in_ok-push_str.ensures.bytes c.in_ok-push_each_step.ensures.text
