use Rattle.std.proofs.Common.{◌≡◌, ◌<◌, ℕ, None}
use Rattle.image_writer.specs.Window.{IsLastBefore}
use Rattle.image_writer.proofs.part.last_address.Given as goal

abbrev pub invariant-loop-address : goal.invariant-loop-address
invariant-loop-address l = IsLastBefore l.address l.image l.last
