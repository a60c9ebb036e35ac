use Rattle.std.proofs.Common.{arith, ◌<◌, ◌≤◌, ◌^◌}
use Rattle.t65_values.proofs.Hex.{four_digits}
use Rattle.t65_values.proofs.scan.hex_number.Goals as goal

pub overflow_mul-value : goal.overflow_mul-value
overflow_mul-value c =
    let small : c.loop-byte.value < 16 ^ 4 = four_digits c.loop-byte.value c.loop-byte.byte-index c.loop-byte.invariant.small (omega arith) in
    omega arith

pub overflow_add-value : goal.overflow_add-value
overflow_add-value c =
    let small : c.loop-byte.value < 16 ^ 4 = four_digits c.loop-byte.value c.loop-byte.byte-index c.loop-byte.invariant.small (omega arith) in
    let digit : c.in_ok-digit.digit ≤ 15 = c.in_ok-digit.ensures.within in
    omega (arith, digit)

pub overflow_cast-result : goal.overflow_cast-result
overflow_cast-result c =
    let small : c.loop-byte.value < 16 ^ 4 = four_digits c.loop-byte.value c.loop-byte.byte-index c.loop-byte.invariant.small (omega arith) in
    omega arith
