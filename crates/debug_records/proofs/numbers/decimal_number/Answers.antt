use Rattle.std.proofs.Common.{◌∙◌, arith, sym}
use Rattle.model.specs.Digits.{decimal_value}
use Rattle.debug_records.proofs.Digits.{large_digit, number_done}
use Rattle.debug_records.proofs.numbers.decimal_number.Goals as goal

pub returns : goal.returns
returns c = sym (c.loop-byte.invariant.rest ∙ number_done decimal_value 10 c.loop-byte.number c.loop-byte.byte-index c.args.digits.now (omega arith)
    c.loop-byte.invariant.small)

pub returns-in_err-number : goal.returns-in_err-number
returns-in_err-number c =
    let large = large_digit decimal_value 9 c.loop-byte.number c.in_ok-digit.digit c.loop-byte.byte-index c.args.digits.now
    (omega (arith, c.loop-byte-test.true)) c.in_ok-digit.ensures.value (sym c.in_err-number.was ∙ c.with_decimal_digit.ensures)
    c.loop-byte.invariant.rest in
    cc
