use Rattle.mon_runs.proofs.LookedRuns as lemmas
use Rattle.mon_runs.proofs.laws.looked_runs_are_steps.Goals as goal

pub returns : goal.returns
returns c = lemmas.looked_runs_are_steps
