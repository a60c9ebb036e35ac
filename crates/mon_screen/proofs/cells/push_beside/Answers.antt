use Rattle.std.proofs.Common.{◌+◌, ◌-◌, arith}
use Rattle.mon_screen.proofs.Lines.{all_written, row_written}
use Rattle.mon_screen.proofs.cells.push_beside.Goals as goal

pub loop-preserved : goal.loop-preserved
loop-preserved c = row_written (c.args.count - c.loop.counter) (c.args.count - (c.loop.counter + 1)) c.args.left c.args.right _ _ _ _ _ _ _
    (omega (arith, c.loop-test.true)) c.in_ok-push_row.ensures c.behind_line-first.ensures c.behind_line-second.ensures c.loop.invariant

pub returns : goal.returns
returns c = all_written (c.args.count - c.loop.counter) c.args.left c.args.right _ _ _ _ (omega (arith, c.loop-test.false)) c.loop.invariant
