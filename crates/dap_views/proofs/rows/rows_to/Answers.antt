use Rattle.std.proofs.Common.{◌∙◌, ◌+◌, ◌-◌, arith}
use Rattle.dap_views.proofs.Following.{to_done, to_end, to_more}
use Rattle.dap_views.proofs.rows.rows_to.Goals as goal

pub returns-then-address-until-clause-value : goal.returns-then-address-until-clause-value
returns-then-address-until-clause-value c = to_end c.args.mon.now c.args.until (c.saturating_sub-end.result - c.loop.counter) c.loop.address c.loop.count _
    c.if-address-until.true c.loop.invariant.count

pub loop-preserved : goal.loop-preserved
loop-preserved c = record {
  count = to_more c.args.mon.now c.args.until (c.saturating_sub-end.result - c.loop.counter) (c.saturating_sub-end.result - (c.loop.counter + 1))
      c.loop.address _ c.loop.count _
      (omega (arith, c.loop-test.true)) (omega (arith, c.if-address-until.false)) (c.behind_row-address.ensures ∙ c.in_ok-len.ensures) c.loop.invariant.count;
  most = omega (arith, c.loop.invariant.most);
}

pub returns-clause-value : goal.returns-clause-value
returns-clause-value c = to_done c.args.mon.now c.args.until (c.saturating_sub-end.result - c.loop.counter) c.loop.address c.loop.count _
    (omega (arith, c.loop-test.false)) c.loop.invariant.count
