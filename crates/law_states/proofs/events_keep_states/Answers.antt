use Rattle.law_states.proofs.Kept as lemmas
use Rattle.law_states.proofs.events_keep_states.Goals as goal

pub returns : goal.returns
returns c = lemmas.events_keep_states
