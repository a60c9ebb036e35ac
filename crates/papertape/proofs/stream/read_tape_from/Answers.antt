use Rattle.papertape.proofs.Streaming.{ends_reading, image_read, only_read, refused_read}
use Rattle.papertape.proofs.stream.read_tape_from.Goals as goal

pub returns-clause-found : goal.returns-clause-found
returns-clause-found g c = image_read _ _ c.read_each_piece.result c.read_each_piece.ensures

pub returns-clause-only : goal.returns-clause-only
returns-clause-only g c = only_read _ _ c.read_each_piece.result c.read_each_piece.ensures

pub returns-clause-fault : goal.returns-clause-fault
returns-clause-fault g c = ends_reading _ _ c.read_each_piece.result c.read_each_piece.ensures

pub returns-clause-refused : goal.returns-clause-refused
returns-clause-refused g c = refused_read _ _ c.read_each_piece.result c.read_each_piece.ensures
