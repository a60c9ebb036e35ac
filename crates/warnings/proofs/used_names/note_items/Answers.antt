use Rattle.std.proofs.Common.{arith}
use Rattle.warnings.proofs.Using.{items_done, items_on}
use Rattle.warnings.proofs.used_names.note_items.Goals as goal

pub loop-item-preserved : goal.loop-item-preserved
loop-item-preserved c = items_on c.args.items.now c.loop-item.item-index c.item-item.result c.loop-item.names c.note_item.new.names _
    c.loop-item-test.true c.item-item.is c.in_ok-note_item.ensures c.loop-item.invariant

pub returns : goal.returns
returns c = items_done c.args.items.now c.loop-item.item-index c.loop-item.names _ (omega (arith, c.loop-item-test.false)) c.loop-item.invariant
