use Rattle.std.proofs.Common.{◌≡◌, length, ℕ}
use Rattle.model.specs.Image.{cell_at}
use Rattle.image_files.specs.Union.{joined_cell}
use Rattle.image_files.proofs.Unions.{so_far}
use Rattle.image_files.proofs.union.union_of.Given as goal

-- The addresses so far have what either image has, and the others have nothing.
abbrev pub invariant-loop-address : goal.invariant-loop-address
invariant-loop-address l = record {
  size : length l.both ≡ 65536;
  each : (k : ℕ) → cell_at l.both k ≡ so_far (λ j. joined_cell (cell_at l.one j) (cell_at l.other j)) l.address k;
}
