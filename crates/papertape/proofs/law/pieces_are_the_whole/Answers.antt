use Rattle.std.proofs.Common.{refl}
use Rattle.model.specs.TapePieces.{longest}
use Rattle.papertape.proofs.Pieces.{fed-append, fed-Err}
use Rattle.papertape.proofs.Told.{told, in_pieces, refused_in_pieces}
use Rattle.papertape.proofs.law.pieces_are_the_whole.Goals as goal

pub returns-clause-cut : goal.returns-clause-cut
returns-clause-cut c = fed-append longest

pub returns-clause-failed : goal.returns-clause-failed
returns-clause-failed c = λ fault piece. (fed-Err longest piece fault, refl)

pub returns-clause-told : goal.returns-clause-told
returns-clause-told c = told

pub returns-clause-image : goal.returns-clause-image
returns-clause-image c = in_pieces

pub returns-clause-fault : goal.returns-clause-fault
returns-clause-fault c = refused_in_pieces
