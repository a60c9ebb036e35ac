use Rattle.std.proofs.Common.{◌≡◌}
use Rattle.warnings.specs.Vectors.{walked}
use Rattle.warnings.specs.Views.{placed_views}
use Rattle.warnings.proofs.Leading.{walks_left}
use Rattle.warnings.proofs.vectors.walked.Given as goal

abbrev pub invariant-loop-one : goal.invariant-loop-one
invariant-loop-one l = walks_left l.lines l.one-index l.so_far ≡ walked l.fn.walk (placed_views l.lines)
