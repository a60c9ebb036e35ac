use Rattle.std.proofs.Common.{◌≡◌, ◌≤◌, drop, length}
use Rattle.debugger.specs.Stops.{before_of}
use Rattle.model.specs.Run.{changed_addresses, lowest}
use Rattle.debugger.proofs.stops.lowest_stored.Given as goal

abbrev pub invariant-loop-index : goal.invariant-loop-index
invariant-loop-index l = record {
  within : l.index ≤ length l.watches;
  least : l.least ≡ lowest (changed_addresses (drop l.index l.watches) (before_of l.change l.machine) l.machine);
}

abbrev pub decreases-loop-index : goal.decreases-loop-index
decreases-loop-index l = l.index
