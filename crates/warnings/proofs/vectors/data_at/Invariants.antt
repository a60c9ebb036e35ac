use Rattle.std.proofs.Common.{◌≡◌, ◌+◌, drop}
use Rattle.warnings.specs.Vectors.{data_at}
use Rattle.warnings.specs.Views.{placed_views}
use Rattle.warnings.proofs.vectors.data_at.Given as goal

abbrev pub invariant-loop-one : goal.invariant-loop-one
invariant-loop-one l = record {
  left : data_at l.address (l.one-index + 1) (placed_views (drop l.one-index l.lines)) ≡ data_at l.address 1 (placed_views l.lines);
  count : l.number ≡ l.one-index;
}
