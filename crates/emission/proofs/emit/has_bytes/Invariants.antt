use Rattle.std.proofs.Common.{◌≡◌, ◌+◌, ◌-◌}
use Rattle.model.specs.Bytes.{has_bytes}
use Rattle.emission.proofs.emit.has_bytes.Given as goal

abbrev pub invariant-loop-i : goal.invariant-loop-i
invariant-loop-i l = has_bytes l.image (l.address + l.i) (l.count - l.i) ≡ has_bytes l.image l.address l.count
