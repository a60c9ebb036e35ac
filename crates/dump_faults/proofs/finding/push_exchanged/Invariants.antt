use Rattle.std.proofs.Common.{◌≡◌, ◌++◌}
use Rattle.dump_faults.specs.Faults.{exchanged_with, joined_below}
use Rattle.dump_faults.proofs.finding.push_exchanged.Given as goal

abbrev pub invariant-loop-other : goal.invariant-loop-other
invariant-loop-other l = l.found.items ≡ l.initial.found.items ++ joined_below (exchanged_with l.pair.dump.now l.pair.good.now l.bus) l.other
