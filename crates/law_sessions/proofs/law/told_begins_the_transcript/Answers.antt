use Rattle.law_sessions.proofs.Told as lemmas
use Rattle.law_sessions.proofs.law.told_begins_the_transcript.Goals as goal

pub returns : goal.returns
returns c = lemmas.told_begins
