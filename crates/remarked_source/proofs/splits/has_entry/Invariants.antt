use Rattle.std.proofs.Common.{◌≡◌, ◌+◌, ◌-◌}
use Rattle.remarked_source.specs.Splits.{has_entry}
use Rattle.remarked_source.proofs.splits.has_entry.Given as goal

abbrev pub invariant-loop-offset : goal.invariant-loop-offset
invariant-loop-offset l = has_entry l.cells l.splits (l.count - l.offset) (l.address + l.offset) ≡ has_entry l.cells l.splits l.count l.address
