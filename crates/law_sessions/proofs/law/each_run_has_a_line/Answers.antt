use Rattle.law_sessions.proofs.RunLines as lemmas
use Rattle.law_sessions.proofs.law.each_run_has_a_line.Goals as goal

pub returns : goal.returns
returns c = lemmas.each_run_has_a_line
