use Rattle.std.proofs.Common.{◌≡◌, drop}
use Rattle.warnings.specs.Flow.{meets}
use Rattle.warnings.specs.Views.{placed_views}
use Rattle.warnings.proofs.flow.meets.Given as goal

abbrev pub invariant-loop-one : goal.invariant-loop-one
invariant-loop-one l = meets l.next (placed_views (drop l.one-index l.lines)) ≡ meets l.next (placed_views l.lines)
