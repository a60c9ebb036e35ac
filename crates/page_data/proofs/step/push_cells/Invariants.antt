use Rattle.std.proofs.Common.{◌≡◌, ◌++◌, take}
use Rattle.std.specs.List.{flat_map}
use Rattle.page_data.specs.Format.{cell}
use Rattle.page_data.specs.Steps.{cells_after}
use Rattle.page_data.proofs.step.push_cells.Given as goal

abbrev pub invariant-loop-address : goal.invariant-loop-address
invariant-loop-address l = l.written.items ≡ l.initial.written.items ++ flat_map cell (cells_after l.session.current.bus.memory (take l.address-index l.cells))
