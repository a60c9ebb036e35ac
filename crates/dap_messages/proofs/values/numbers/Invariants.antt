use Rattle.std.proofs.Common.{map, take}
use Rattle.json_messages.specs.ValueLists.{HasValues}
use Rattle.json_messages.specs.Values.{count}
use Rattle.dap_messages.proofs.values.numbers.Given as goal

abbrev pub invariant-loop-number : goal.invariant-loop-number
invariant-loop-number l = HasValues (map count (take l.number-index l.all)) l.list
