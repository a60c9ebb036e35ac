use Rattle.law_states.proofs.Kept as lemmas
use Rattle.law_states.proofs.starts_are_states.Goals as goal

pub returns : goal.returns
returns c = lemmas.starts_are_states
