use Rattle.loading.proofs.Joins.{other_ends}
use Rattle.loading.proofs.machine.first_joined.Goals as goal

pub returns-in-Err-clause-refused : goal.returns-in-Err-clause-refused
returns-in-Err-clause-refused g c = other_ends c.in-Err.fault c.said_of.result c.in-Err.ensures.refused
