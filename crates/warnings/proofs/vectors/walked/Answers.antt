use Rattle.std.proofs.Common.{arith}
use Rattle.warnings.proofs.Leading.{walks_done, walks_on}
use Rattle.warnings.proofs.vectors.walked.Goals as goal

pub loop-one-preserved : goal.loop-one-preserved
loop-one-preserved c = walks_on c.args.lines.now c.loop-one.one-index c.one-item.result c.loop-one.so_far c.walked_on-so_far.result _
    c.loop-one-test.true c.one-item.is c.walked_on-so_far.ensures c.loop-one.invariant

pub returns : goal.returns
returns c = walks_done c.args.lines.now c.loop-one.one-index c.loop-one.so_far _ (omega (arith, c.loop-one-test.false)) c.loop-one.invariant
