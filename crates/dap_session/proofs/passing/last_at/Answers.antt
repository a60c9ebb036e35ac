use Rattle.std.proofs.Common.{arith}
use Rattle.dap_session.proofs.LogRuns.{last_done, last_more}
use Rattle.dap_session.proofs.passing.last_at.Goals as goal

pub loop-one-preserved : goal.loop-one-preserved
loop-one-preserved c = last_more c.args.address c.args.placed.now c.loop-one.one-index _ c.loop-one.found _ _
    (omega (arith, c.loop-one-test.true)) c.id_or-found.ensures c.loop-one.invariant

pub returns : goal.returns
returns c = last_done c.args.address c.args.placed.now c.loop-one.one-index _ _ (omega (arith, c.loop-one-test.false)) c.loop-one.invariant
