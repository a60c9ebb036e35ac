use Rattle.papertape.proofs.Told.{found_in_pieces, only_in_pieces, fault_in_pieces, answered_in_pieces}
use Rattle.papertape.proofs.law.read_pieces.Goals as goal

pub returns-clause-found : goal.returns-clause-found
returns-clause-found c = found_in_pieces _ c.read_each.result c.read_each.ensures

pub returns-clause-only : goal.returns-clause-only
returns-clause-only c = only_in_pieces _ c.read_each.result c.read_each.ensures

pub returns-clause-fault : goal.returns-clause-fault
returns-clause-fault c = fault_in_pieces _ c.read_each.result c.read_each.ensures

pub returns-clause-refused : goal.returns-clause-refused
returns-clause-refused c = answered_in_pieces _ c.read_each.result c.read_each.ensures
