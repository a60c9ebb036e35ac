use Rattle.std.proofs.Common.{◌≡◌, true}
use Rattle.dump_faults.specs.Faults.{holds_below, is_right_at}
use Rattle.dump_faults.proofs.finding.is_read_with.Given as goal

abbrev pub invariant-loop-address : goal.invariant-loop-address
invariant-loop-address l = holds_below (is_right_at l.fault l.dump l.good) l.address ≡ true
