use Rattle.law_sessions.proofs.Polled as lemmas
use Rattle.law_sessions.proofs.law.polled_transcripts_stay.Goals as goal

pub returns : goal.returns
returns c = lemmas.polled_transcripts_stay
