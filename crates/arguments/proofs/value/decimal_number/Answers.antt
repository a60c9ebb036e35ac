use Rattle.std.proofs.Common.{arith, ◌<◌, ◌≤◌, ◌^◌}
use Rattle.arguments.proofs.Digits.{eighteen_digits}
use Rattle.arguments.proofs.value.decimal_number.Goals as goal

pub overflow_mul-value : goal.overflow_mul-value
overflow_mul-value c =
    let small : c.loop-byte.value < 10 ^ 18 = eighteen_digits c.loop-byte.value c.loop-byte.byte-index c.loop-byte.invariant.small (omega arith) in
    omega arith

pub overflow_add-value : goal.overflow_add-value
overflow_add-value c =
    let small : c.loop-byte.value < 10 ^ 18 = eighteen_digits c.loop-byte.value c.loop-byte.byte-index c.loop-byte.invariant.small (omega arith) in
    let digit : c.in_ok-digit.digit ≤ 9 = c.in_ok-digit.ensures.within in
    omega (arith, digit)
