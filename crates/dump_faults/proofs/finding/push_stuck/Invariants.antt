use Rattle.std.proofs.Common.{◌≡◌, ◌++◌}
use Rattle.dump_faults.specs.Faults.{joined_below, stuck_at_both}
use Rattle.dump_faults.proofs.finding.push_stuck.Given as goal

abbrev pub invariant-loop-line : goal.invariant-loop-line
invariant-loop-line l = l.found.items ≡ l.initial.found.items ++ joined_below (stuck_at_both l.pair.dump.now l.pair.good.now l.bus) l.line
