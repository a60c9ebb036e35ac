use Rattle.std.proofs.Common.{arith}
use Rattle.warnings.proofs.Looking.{no_byte, one_byte}
use Rattle.warnings.proofs.all_lines.has_bytes.Goals as goal

pub returns-then-one-gt0 : goal.returns-then-one-gt0
returns-then-one-gt0 c = one_byte c.args.lines.now c.loop-one.one-index c.one-item.result c.loop-one-test.true c.one-item.is c.if-one-gt0.true

pub returns : goal.returns
returns c = no_byte c.args.lines.now c.loop-one.one-index (omega (arith, c.loop-one-test.false)) c.loop-one.invariant
