use Rattle.std.proofs.Common.{arith, ◌<◌, ◌≤◌, ◌^◌}
use Rattle.commands.proofs.Decimal.{seven_digits}
use Rattle.commands.proofs.numbers.digits.Goals as goal

pub overflow_mul-value : goal.overflow_mul-value
overflow_mul-value c =
    let small : c.loop-byte.value < 10 ^ 7 = seven_digits c.loop-byte.value c.loop-byte.byte-index c.loop-byte.invariant.small (omega arith) in
    omega arith

pub overflow_add-value : goal.overflow_add-value
overflow_add-value c =
    let small : c.loop-byte.value < 10 ^ 7 = seven_digits c.loop-byte.value c.loop-byte.byte-index c.loop-byte.invariant.small (omega arith) in
    let digit : c.in_ok-digit.digit ≤ 9 = c.in_ok-digit.ensures.within in
    omega (arith, digit)
