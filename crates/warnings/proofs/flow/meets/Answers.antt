use Rattle.std.proofs.Common.{arith}
use Rattle.warnings.proofs.Looking.{meets_here, meets_later, meets_nothing}
use Rattle.warnings.proofs.flow.meets.Goals as goal

pub returns-then-one-gt0 : goal.returns-then-one-gt0
returns-then-one-gt0 c = meets_here c.args.next c.args.lines.now c.loop-one.one-index c.one-item.result _ c.meets_line.result c.loop-one-test.true
    c.one-item.is c.if-one-gt0.true c.meets_line.ensures c.loop-one.invariant

pub loop-one-preserved : goal.loop-one-preserved
loop-one-preserved c = meets_later c.args.next c.args.lines.now c.loop-one.one-index c.one-item.result _ c.loop-one-test.true c.one-item.is
    (omega (arith, c.if-one-gt0.false)) c.loop-one.invariant

pub returns : goal.returns
returns c = meets_nothing c.args.next c.args.lines.now c.loop-one.one-index _ (omega (arith, c.loop-one-test.false)) c.loop-one.invariant
