use Rattle.law_sessions.proofs.Looks as lemmas
use Rattle.law_sessions.proofs.law.looks_are_harmless.Goals as goal

pub returns : goal.returns
returns c = lemmas.looks_are_harmless
