use Rattle.std.proofs.Common.{◌≡◌, ◌≤◌, ◌+◌, ◌*◌, length, take, drop}
use Rattle.trace_rows.specs.Steps.{with_stores}
use Rattle.trace_rows.proofs.steps.push_stores.Given as goal

abbrev pub invariant-loop-address : goal.invariant-loop-address
invariant-loop-address l = record {
  reaches : l.from ≤ length l.text.items;
  before : take l.from l.text.items ≡ take l.from l.initial.text.items;
  column : l.column ≡ 70 + 8 * l.address-index;
  row : with_stores l.session.current.bus l.column (drop l.address-index l.stores.items) (drop l.from l.text.items)
      ≡ with_stores l.session.current.bus 70 l.stores.items (drop l.from l.initial.text.items);
}
