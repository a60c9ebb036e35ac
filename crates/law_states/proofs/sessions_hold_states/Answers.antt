use Rattle.law_states.proofs.Held as lemmas
use Rattle.law_states.proofs.sessions_hold_states.Goals as goal

pub returns : goal.returns
returns c = lemmas.sessions_hold_states
