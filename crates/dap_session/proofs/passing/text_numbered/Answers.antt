use Rattle.std.proofs.Common.{arith}
use Rattle.dap_session.proofs.LogRuns.{text_done, text_more}
use Rattle.dap_session.proofs.passing.text_numbered.Goals as goal

pub loop-listed-preserved : goal.loop-listed-preserved
loop-listed-preserved c = text_more c.args.list.now c.loop-listed.listed-index c.listed-item.result c.args.id c.loop-listed.number _ _ _ _
    (omega (arith, c.loop-listed-test.true)) c.listed-item.is c.text_or-found.ensures c.next_number-number.ensures c.loop-listed.invariant

pub returns : goal.returns
returns c = text_done c.args.list.now c.loop-listed.listed-index c.args.id c.loop-listed.number _ _ (omega (arith, c.loop-listed-test.false))
    c.loop-listed.invariant
