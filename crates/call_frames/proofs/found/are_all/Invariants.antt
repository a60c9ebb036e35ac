use Rattle.std.proofs.Common.{◌≡◌, drop}
use Rattle.call_frames.specs.Found.{are_all}
use Rattle.call_frames.proofs.found.are_all.Given as goal

abbrev pub invariant-loop-other : goal.invariant-loop-other
invariant-loop-other l = are_all l.address (drop l.other-index l.addresses) ≡ are_all l.address l.addresses
