use Rattle.std.proofs.Common.{◌≤◌}
use Rattle.debug_facts.specs.Hidden.{AreCells}
use Rattle.debug_facts.proofs.hidden.cells_by.Given as goal

abbrev pub invariant-loop-address : goal.invariant-loop-address
invariant-loop-address l = record {
  few : l.address ≤ 65536;
  made : AreCells l.found l.shown l.address l.cells.items;
}
