use Rattle.std.proofs.Common.{arith}
use Rattle.dap_session.proofs.Hits.{hits_done, hits_more}
use Rattle.dap_session.proofs.stands.push_ids.Goals as goal

pub loop-one-preserved : goal.loop-one-preserved
loop-one-preserved c = hits_more c.args.address c.args.placed.now c.loop-one.one-index _ c.loop-one.ids.items _ _
    (omega (arith, c.loop-one-test.true)) c.in_ok-push_if.ensures c.loop-one.invariant

pub returns : goal.returns
returns c = hits_done c.args.address c.args.placed.now c.loop-one.one-index _ _ (omega (arith, c.loop-one-test.false)) c.loop-one.invariant
