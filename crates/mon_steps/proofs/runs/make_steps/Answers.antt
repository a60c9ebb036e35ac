use Rattle.mon_steps.proofs.Chains.{run_one}
use Rattle.mon_steps.proofs.runs.make_steps.Goals as goal

pub returns-clause-course : goal.returns-clause-course
returns-clause-course c = run_one c.run-end.result.did _ _ (c.run-end.ensures.steps, c.note_steps.ensures)
