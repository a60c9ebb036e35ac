use Rattle.mon_steps.proofs.Chains.{run_one}
use Rattle.mon_steps.proofs.runs.make_return.Goals as goal

pub returns-clause-course : goal.returns-clause-course
returns-clause-course c = run_one c.out-end.result.did _ _ (c.out-end.ensures.steps, c.note_steps.ensures)
