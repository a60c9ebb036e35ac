use Rattle.std.proofs.Common.{map, take}
use Rattle.dap_messages.proofs.Lists.{written}
use Rattle.json_messages.specs.ValueLists.{HasValues}
use Rattle.dap_messages.proofs.written.items_value.Given as goal

abbrev pub invariant-loop-item : goal.invariant-loop-item
invariant-loop-item l = HasValues (map written (take l.item-index l.items)) l.list
