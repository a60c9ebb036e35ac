use Rattle.law_sessions.proofs.Runs as lemmas
use Rattle.law_sessions.proofs.law.run_can_be_repeated.Goals as goal

pub returns : goal.returns
returns c = lemmas.run_can_be_repeated
