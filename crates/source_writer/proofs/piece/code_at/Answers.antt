use Rattle.source_writer.proofs.Withins.{some_code}
use Rattle.source_writer.proofs.piece.code_at.Goals as goal

pub code_piece-requires : goal.code_piece-requires
code_piece-requires c =
    rw (c.deref.ensures.0, c.stretch-bytes.ensures.bytes) (some_code c.args.cells.now c.args.marks.now c.args.address c.args.byte c.requires.here
    c.requires.kind)
