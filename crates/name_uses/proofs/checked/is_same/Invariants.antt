use Rattle.std.proofs.Common.{◌≡◌, ℕ, ◌<◌}
use Rattle.model.specs.Image.{cell_at}
use Rattle.name_uses.proofs.checked.is_same.Given as goal

abbrev pub invariant-loop-address : goal.invariant-loop-address
invariant-loop-address l = (k : ℕ) → k < l.address → cell_at l.image k ≡ cell_at l.other k
