use Rattle.std.proofs.Common.{◌∙◌, sym, subst, arith}
use Rattle.papertape.specs.Writing.{ComesNext}
use Rattle.papertape.proofs.Ahead.{starts, passes}
use Rattle.papertape.proofs.piece.Piece.next.Goals as goal

pub returns-then-is_some : goal.returns-then-is_some
returns-then-is_some c =
    subst (λ p. ComesNext c.args.cells.now c.args.from p) (sym c.at.ensures)
    (starts c.args.cells.now c.byte_at.result c.loop-address.address c.args.from c.requires.size c.loop-address-test.true c.loop-address.auto.address
    c.byte_at.ensures (sym c.is_some.ensures ∙ c.if-is_some.true) c.loop-address.invariant)

pub loop-address-preserved : goal.loop-address-preserved
loop-address-preserved c =
    c.loop-address.invariant
    ∙ passes c.args.cells.now c.byte_at.result c.loop-address.address (omega (arith, c.requires.size, c.loop-address-test.true)) c.byte_at.ensures
    (sym c.is_some.ensures ∙ c.if-is_some.false)
