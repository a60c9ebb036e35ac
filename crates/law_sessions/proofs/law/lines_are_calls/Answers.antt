use Rattle.law_sessions.proofs.LineCalls as lemmas
use Rattle.law_sessions.proofs.law.lines_are_calls.Goals as goal

pub returns : goal.returns
returns c = lemmas.lines_are_calls
