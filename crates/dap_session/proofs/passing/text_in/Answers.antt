use Rattle.std.proofs.Common.{arith}
use Rattle.dap_session.proofs.LogRuns.{list_done, list_more}
use Rattle.dap_session.proofs.passing.text_in.Goals as goal

pub loop-listed-preserved : goal.loop-listed-preserved
loop-listed-preserved c = list_more c.args.lists.now c.loop-listed.listed-index c.listed-item.result c.args.id _ _ _
    (omega (arith, c.loop-listed-test.true)) c.listed-item.is c.text_of_list-found.ensures c.loop-listed.invariant

pub returns : goal.returns
returns c = list_done c.args.lists.now c.loop-listed.listed-index c.args.id _ _ (omega (arith, c.loop-listed-test.false)) c.loop-listed.invariant
