use Rattle.std.proofs.Common.{◌∙◌, sym, arith}
use Rattle.papertape.proofs.Ahead.{copied_more}
use Rattle.papertape.proofs.piece.fill.Goals as goal

pub loop-i-preserved : goal.loop-i-preserved
loop-i-preserved c =
    sym (copied_more c.args.cells.now c.loop-i.bytes c.args.address c.loop-i.i c.in-Some.byte (omega arith) (omega arith)
    (sym c.byte_at.ensures ∙ c.in-Some.is)) ∙ c.loop-i.invariant
