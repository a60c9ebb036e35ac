use Rattle.std.proofs.Common.{arith}
use Rattle.t65_failures.proofs.Appended.{all_done, one_more}
use Rattle.t65_failures.proofs.detail.push_misses.Goals as goal

pub loop-item-preserved : goal.loop-item-preserved
loop-item-preserved c = λ state count cycles.
    one_more _ _ _ _ _ _ _ c.loop-item-test.true (c.in_ok-push_miss.ensures state count cycles) (c.loop-item.invariant state count cycles)

pub returns : goal.returns
returns c = λ state count cycles. all_done _ c.args.items.now c.loop-item.item-index _ _ (omega arith) (c.loop-item.invariant state count cycles)
