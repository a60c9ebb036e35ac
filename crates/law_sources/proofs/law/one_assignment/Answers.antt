use Rattle.law_sources.proofs.Meaning.{one_assignment}
use Rattle.law_sources.proofs.law.one_assignment.Goals as goal

pub returns : goal.returns
returns c = one_assignment
