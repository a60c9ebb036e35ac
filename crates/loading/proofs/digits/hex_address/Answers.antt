use Rattle.std.proofs.Common.{arith}
use Rattle.model.specs.Digits.{hex_value}
use Rattle.loading.proofs.DigitLemmas.{beyond}
use Rattle.loading.proofs.digits.hex_address.Goals as goal

pub returns-then-value-gt65535 : goal.returns-then-value-gt65535
returns-then-value-gt65535 c = beyond hex_value 16 (λ m d. omega arith) c.args.word.now c.loop-byte.value c.loop-byte.byte-index c.in_ok-digit.digit
    (omega arith) c.loop-byte.invariant.rest c.in_ok-digit.ensures.value c.if-value-gt65535.true
