use Rattle.std.proofs.Common.{◌≡◌, false, nat_lt, take}
use Rattle.std.specs.List.{list_any}
use Rattle.warnings.specs.Views.{placed_view}
use Rattle.warnings.proofs.all_lines.has_bytes.Given as goal

abbrev pub invariant-loop-one : goal.invariant-loop-one
invariant-loop-one l = list_any (λ p. nat_lt 0 (placed_view p).size) (take l.one-index l.lines) ≡ false
