use Rattle.law_sessions.proofs.Backs as lemmas
use Rattle.law_sessions.proofs.law.going_back_is_exact.Goals as goal

pub returns : goal.returns
returns c = lemmas.back_is_exact
