use Rattle.std.proofs.Common.{arith}
use Rattle.json_messages.proofs.Lists.{all_values, next_value}
use Rattle.json_messages.specs.Values.{count}
use Rattle.dap_messages.proofs.values.numbers.Goals as goal

pub loop-number-init : goal.loop-number-init
loop-number-init c = c.new-list.ensures

pub loop-number-preserved : goal.loop-number-preserved
loop-number-preserved c =
    next_value count c.args.all.now c.loop-number.number-index _ _ (omega (arith, c.loop-number-test.true))
    (c.with-list.ensures _ _ c.loop-number.invariant c.from.ensures)

pub returns : goal.returns
returns c = c.build.ensures _ (all_values count c.args.all.now c.loop-number.number-index c.loop-number.list (omega (arith, c.loop-number-test.false))
    c.loop-number.invariant)
