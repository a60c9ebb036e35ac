use Rattle.std.proofs.Common.{◌-◌, length}
use Rattle.reached.specs.Search.{IsSearch, seen_of}
use Rattle.reached.proofs.search.Search.explore.Given as goal

abbrev pub invariant-loop-start : goal.invariant-loop-start
invariant-loop-start l = IsSearch l.profile l.cells l.marks l.routines l.starts l.start-index 0 (seen_of l.self)

abbrev pub invariant-loop-at : goal.invariant-loop-at
invariant-loop-at l = IsSearch l.profile l.cells l.marks l.routines l.starts (length l.starts) l.at (seen_of l.self)

abbrev pub decreases-loop-at : goal.decreases-loop-at
decreases-loop-at l = 65536 - l.at
