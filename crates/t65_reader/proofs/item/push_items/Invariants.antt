use Rattle.std.proofs.Common.{◌≡◌, ◌+◌, ◌++◌, drop}
use Rattle.t65_reader.specs.Items.{value_items}
use Rattle.t65_reader.proofs.item.push_items.Given as goal

abbrev pub invariant-loop-i : goal.invariant-loop-i
invariant-loop-i l = record {
  rest : l.found.items ++ value_items l.at (l.start + l.i) (drop l.i l.values) ≡ l.fn.found.items ++ value_items l.at l.start l.values;
}
