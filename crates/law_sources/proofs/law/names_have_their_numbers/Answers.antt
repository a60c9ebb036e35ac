use Rattle.law_sources.proofs.Holding.{names_hold}
use Rattle.law_sources.proofs.law.names_have_their_numbers.Goals as goal

pub returns : goal.returns
returns c = names_hold
