use Rattle.std.proofs.Common.{◌≡◌, false, take}
use Rattle.std.specs.List.{list_any}
use Rattle.warnings.specs.Flow.{is_vector}
use Rattle.warnings.specs.Views.{placed_view}
use Rattle.warnings.proofs.flow.has_vector.Given as goal

abbrev pub invariant-loop-one : goal.invariant-loop-one
invariant-loop-one l = list_any (λ p. is_vector (placed_view p)) (take l.one-index l.lines) ≡ false
