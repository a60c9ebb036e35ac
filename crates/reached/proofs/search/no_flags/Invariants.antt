use Rattle.reached.specs.Search.{AreUnset}
use Rattle.reached.proofs.search.no_flags.Given as goal

abbrev pub invariant-loop : goal.invariant-loop
invariant-loop l = AreUnset l.counter l.flags.items
