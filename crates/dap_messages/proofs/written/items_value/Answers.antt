use Rattle.std.proofs.Common.{arith, ap, sym}
use Rattle.std.proofs.lemmas.Simd.{map-map}
use Rattle.dap_messages.proofs.Shown.{value_as}
use Rattle.dap_messages.proofs.Lists.{written}
use Rattle.dap_messages.specs.SeenAnswers.{item_view}
use Rattle.dap_messages.specs.Written.{item_data}
use Rattle.json_messages.proofs.Lists.{all_values, next_value}
use Rattle.json_messages.specs.Values.{list_of}
use Rattle.dap_messages.proofs.written.items_value.Goals as goal

pub loop-item-init : goal.loop-item-init
loop-item-init c = c.new-list.ensures

pub loop-item-preserved : goal.loop-item-preserved
loop-item-preserved c =
    next_value written c.args.items.now c.loop-item.item-index _ _ (omega (arith, c.loop-item-test.true))
    (c.with-list.ensures _ _ c.loop-item.invariant (value_as _ _ _ (ap written c.item-item.is) c.value.ensures))

pub returns : goal.returns
returns c =
    let all = all_values written c.args.items.now c.loop-item.item-index c.loop-item.list (omega (arith, c.loop-item-test.false)) c.loop-item.invariant in
    value_as _ _ _ (ap list_of (sym (map-map item_data item_view c.args.items.now))) (c.build.ensures _ all)
