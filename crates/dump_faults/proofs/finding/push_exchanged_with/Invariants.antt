use Rattle.std.proofs.Common.{◌≡◌, ◌++◌}
use Rattle.dump_faults.specs.Faults.{exchanged_at, joined_below}
use Rattle.dump_faults.proofs.finding.push_exchanged_with.Given as goal

abbrev pub invariant-loop-one : goal.invariant-loop-one
invariant-loop-one l = l.found.items ≡ l.initial.found.items ++ joined_below (exchanged_at l.pair.dump.now l.pair.good.now l.bus l.other) l.one
