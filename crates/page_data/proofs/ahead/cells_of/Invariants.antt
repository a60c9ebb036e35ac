use Rattle.std.proofs.Common.{◌≡◌, ◌≤◌, length, take}
use Rattle.page_data.specs.Steps.{cells_of}
use Rattle.page_data.proofs.ahead.cells_of.Given as goal

abbrev pub invariant-loop-address : goal.invariant-loop-address
invariant-loop-address l = record {
  short : length l.cells.items ≤ l.address-index;
  cells : l.cells.items ≡ cells_of l.session.current.bus.memory (take l.address-index l.addresses.items);
}
