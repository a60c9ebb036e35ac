use Rattle.std.proofs.Common.{◌∙◌, ◌+◌, ◌-◌, ap, arith}
use Rattle.dap_views.proofs.Following.{on_done, on_more}
use Rattle.dap_views.specs.Rows.{rows_on}
use Rattle.dap_views.proofs.rows.rows_on.Goals as goal

pub loop-init : goal.loop-init
loop-init c = ap (λ n. rows_on c.args.mon.now c.args.until n c.args.from) (omega arith)

pub loop-preserved : goal.loop-preserved
loop-preserved c = on_more c.args.mon.now c.args.until (c.args.count - c.loop.counter) (c.args.count - (c.loop.counter + 1)) c.loop.address _ _
    (omega (arith, c.loop-test.true)) (c.behind_row-address.ensures ∙ c.in_ok-len.ensures) c.loop.invariant

pub returns : goal.returns
returns c = on_done c.args.mon.now c.args.until (c.args.count - c.loop.counter) c.loop.address _
    (omega (arith, c.loop-test.false)) c.loop.invariant
