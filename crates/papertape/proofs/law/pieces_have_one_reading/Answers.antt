use Rattle.papertape.proofs.Told.{one_image, one_refusal, read_or_refused}
use Rattle.papertape.proofs.law.pieces_have_one_reading.Goals as goal

pub returns-clause-image : goal.returns-clause-image
returns-clause-image c = one_image

pub returns-clause-fault : goal.returns-clause-fault
returns-clause-fault c = one_refusal

pub returns-clause-either : goal.returns-clause-either
returns-clause-either c = read_or_refused
