use Rattle.std.proofs.Common.{◌≡◌, ℕ, ◌+◌, ◌<◌, Some}
use Rattle.model.specs.Image.{cell_at}
use Rattle.word_dis.proofs.fill.is_run.Given as goal

abbrev pub invariant-loop-offset : goal.invariant-loop-offset
invariant-loop-offset l = (k : ℕ) → k < l.offset → cell_at l.image (l.begin + k) ≡ Some l.fill
