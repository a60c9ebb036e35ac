use Rattle.std.proofs.Common.{◌≡◌, take}
use Rattle.model.specs.State.{memory_of}
use Rattle.memory_map.proofs.memory.memory_of.Given as goal

abbrev pub invariant-loop-cell : goal.invariant-loop-cell
invariant-loop-cell l = l.memory.items ≡ take l.cell-index (memory_of l.cell-items)
