use Rattle.law_sessions.proofs.Runs as lemmas
use Rattle.law_sessions.proofs.law.cut_run_goes_on.Goals as goal

pub returns : goal.returns
returns c = lemmas.cut_run_goes_on
