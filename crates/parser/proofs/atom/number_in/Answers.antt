use Rattle.std.proofs.Common.{◌∙◌, arith}
use Rattle.parser.proofs.Literals.{capped_turn}
use Rattle.parser.proofs.atom.number_in.Goals as goal

pub loop-byte-preserved : goal.loop-byte-preserved
loop-byte-preserved c = record {
  capped = omega (arith, c.min-number.ensures);
  same = rw (c.min-number.ensures, c.digit.ensures)
      (capped_turn c.args.base c.loop-byte.number c.loop-byte.byte-index c.args.digits.now c.requires c.loop-byte-test.true ∙ c.loop-byte.invariant.same);
}
