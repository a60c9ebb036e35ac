use Rattle.std.proofs.Common.{None, sym, ◌∙◌, arith}
use Rattle.std.proofs.lemmas.List.{ext_get_or}
use Rattle.name_uses.proofs.checked.is_same.Goals as goal

pub returns-clause-same : goal.returns-clause-same
returns-clause-same c same =
    ext_get_or None c.args.image.now c.args.other.now (c.cells.ensures.image.size ∙ sym c.cells-2.ensures.image.size)
    (λ i h. c.loop-address.invariant i (omega (arith, h, c.loop-address-test.false, c.cells.ensures.image.size)))
