use Rattle.std.proofs.Common.{◌≡◌, ℕ, ◌<◌, false}
use Rattle.image_files.specs.Union.{differ_at}
use Rattle.image_files.proofs.union.first_clash.Given as goal

-- no address before this one has two bytes
abbrev pub invariant-loop-address : goal.invariant-loop-address
invariant-loop-address l = (lower : ℕ) → lower < l.address → differ_at l.one l.other lower ≡ false
