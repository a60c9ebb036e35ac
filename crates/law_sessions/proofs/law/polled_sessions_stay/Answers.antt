use Rattle.law_sessions.proofs.Polled as lemmas
use Rattle.law_sessions.proofs.law.polled_sessions_stay.Goals as goal

pub returns : goal.returns
returns c = lemmas.polled_sessions_stay
