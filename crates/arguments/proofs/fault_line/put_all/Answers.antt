use Rattle.arguments.proofs.Lines.{all_written, front_written, more_written}
use Rattle.arguments.proofs.fault_line.put_all.Goals as goal

pub loop-part-preserved : goal.loop-part-preserved
loop-part-preserved g c = more_written _ _ c.args.parts.now c.loop-part.part-index c.loop-part.invariant _ _ c.loop-part-test.true c.in-Ok.ensures

pub returns-in-Err : goal.returns-in-Err
returns-in-Err g c = front_written _ _ c.args.parts.now c.loop-part.part-index c.loop-part.invariant _ _ c.loop-part-test.true c.in-Err.ensures

pub returns : goal.returns
returns g c = all_written _ _ c.args.parts.now c.loop-part.part-index c.loop-part.invariant c.loop-part-test.false
