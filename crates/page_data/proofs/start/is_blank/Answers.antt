use Rattle.std.proofs.Common.{arith, sym}
use Rattle.page_data.proofs.Pages.{blank_all, blank_not}
use Rattle.page_data.proofs.start.is_blank.Goals as goal

pub returns-then-cell-ne0 : goal.returns-then-cell-ne0
returns-then-cell-ne0 c = sym (blank_not c.args.cells.now c.loop-cell.cell-index c.loop-cell-test.true c.if-cell-ne0.true)

pub returns : goal.returns
returns c = sym (blank_all c.args.cells.now (λ k h. c.loop-cell.invariant k (omega (arith, h, c.loop-cell-test.false))))
