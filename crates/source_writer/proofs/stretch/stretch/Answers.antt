use Rattle.std.proofs.Common.{arith}
use Rattle.source_writer.proofs.Stretches.{ended, none}
use Rattle.source_writer.proofs.stretch.stretch.Goals as goal

pub returns-in-None-clause-bytes : goal.returns-in-None-clause-bytes
returns-in-None-clause-bytes c =
    ended c.args.cells.now c.args.marks.now c.args.kind c.loop-left.left c.loop-left.at _ _ c.loop-left.invariant.found c.loop-left-test.true
    c.in-None.ensures.one

pub returns-clause-bytes : goal.returns-clause-bytes
returns-clause-bytes c =
    none c.args.cells.now c.args.marks.now c.args.kind c.loop-left.left c.loop-left.at _ _ c.loop-left.invariant.found (omega arith)
