use Rattle.alu.proofs.Parts.{low_digit_is, bool_byte_is}
use Rattle.alu.proofs.Decimal.{value_is, minus_is, signed_is, carry_is}
use Rattle.alu.proofs.sums.adc_decimal.Goals as goal

pub returns-clause-value : goal.returns-clause-value
returns-clause-value c =
    rw (c.adjusted_up.ensures.value, c.adjusted_up-2.ensures.value) (simp (bool_byte_is, low_digit_is)
    (value_is c.args.a c.args.m c.args.c c.ranges.a.fits c.ranges.m.fits))

pub returns-clause-minus : goal.returns-clause-minus
returns-clause-minus c = simp (bool_byte_is, low_digit_is) (minus_is c.args.a c.args.m c.args.c c.ranges.a.fits c.ranges.m.fits)

pub returns-clause-overflow : goal.returns-clause-overflow
returns-clause-overflow c = simp (bool_byte_is, low_digit_is) (signed_is c.args.a c.args.m c.args.c c.ranges.a.fits c.ranges.m.fits)

pub returns-clause-carry : goal.returns-clause-carry
returns-clause-carry c = simp (bool_byte_is, low_digit_is) (carry_is c.args.a c.args.m c.args.c c.ranges.a.fits c.ranges.m.fits)
