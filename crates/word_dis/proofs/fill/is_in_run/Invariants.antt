use Rattle.std.proofs.Common.{ℕ, ◌-◌, ◌<◌, ◌≤◌}
use Rattle.word_dis.specs.Fill.{IsRun}
use Rattle.word_dis.proofs.fill.is_in_run.Given as goal

abbrev pub invariant-loop-back : goal.invariant-loop-back
invariant-loop-back l = (k : ℕ) → k < l.back → k ≤ l.address → IsRun l.image l.fill (l.address - k) → ⊥
