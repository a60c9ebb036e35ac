use Rattle.std.proofs.Common.{◌≡◌, ◌∙◌, not, arith, ◌<◌}
use Rattle.std.proofs.lemmas.Bool.Decides.{nat_tests}
use Rattle.model.specs.Arithmetic.{bit}
use Rattle.alu.proofs.Raised.{decimal_is}
use Rattle.alu.proofs.Decimal.{written_difference}
use Rattle.alu.proofs.sums.sbc.Goals as goal

pub returns-then-d-clause-decimal : goal.returns-then-d-clause-decimal
returns-then-d-clause-decimal c d a_digits m_digits =
    let k : bit (not c.args.c) < 2 = grind (arith, nat_tests) in
    c.sbc_digits.ensures ∙ decimal_is c.args.a c.args.m c.args.c c.ranges.a.fits c.ranges.m.fits k
    ∙ written_difference c.args.a c.args.m (bit (not c.args.c)) a_digits m_digits k
