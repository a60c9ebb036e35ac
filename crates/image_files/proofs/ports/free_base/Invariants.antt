use Rattle.std.proofs.Common.{ℕ, ◌<◌}
use Rattle.image_files.specs.FreeBase.{IsFree}
use Rattle.image_files.proofs.ports.free_base.Given as goal

-- no base before this one is free
abbrev pub invariant-loop-base : goal.invariant-loop-base
invariant-loop-base l = (lower : ℕ) → lower < l.base → IsFree l.rom l.image lower → ⊥
