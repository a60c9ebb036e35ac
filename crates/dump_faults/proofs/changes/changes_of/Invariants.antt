use Rattle.std.proofs.Common.{◌≡◌}
use Rattle.dump_faults.specs.Changes.{changes_below}
use Rattle.dump_faults.proofs.changes.changes_of.Given as goal

abbrev pub invariant-loop-address : goal.invariant-loop-address
invariant-loop-address l = l.changes.items ≡ changes_below l.one l.other l.address
