use Rattle.std.proofs.Common.{◌≡◌, ◌<◌, ℕ, None}
use Rattle.model.specs.Image.{cell_at}
use Rattle.image_writer.proofs.part.first_address.Given as goal

abbrev pub invariant-loop-address : goal.invariant-loop-address
invariant-loop-address l = (k : ℕ) → k < l.address → cell_at l.image k ≡ None
