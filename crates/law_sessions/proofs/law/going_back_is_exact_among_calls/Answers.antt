use Rattle.law_sessions.proofs.Calls as lemmas
use Rattle.law_sessions.proofs.law.going_back_is_exact_among_calls.Goals as goal

pub returns : goal.returns
returns c = lemmas.back_is_exact_among_calls
