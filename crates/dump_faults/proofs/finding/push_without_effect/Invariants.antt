use Rattle.std.proofs.Common.{◌≡◌, ◌++◌}
use Rattle.dump_faults.specs.Faults.{joined_below, without_effect_at}
use Rattle.dump_faults.proofs.finding.push_without_effect.Given as goal

abbrev pub invariant-loop-line : goal.invariant-loop-line
invariant-loop-line l = l.found.items ≡ l.initial.found.items ++ joined_below (without_effect_at l.image) l.line
