use Rattle.std.proofs.Common.{◌≡◌, ◌≢◌, ◌<◌, ◌/◌, ℕ}
use Rattle.std.specs.Prelude.{slice_index, slice_index_or}
use Rattle.model.specs.Undo.{cells_of}
use Rattle.bus.proofs.pages.stamp_cells.Given as goal

abbrev pub invariant-loop-place : goal.invariant-loop-place
invariant-loop-place l = record {
  kept : (page : ℕ) → slice_index l.stamps page < l.now → slice_index l.stamps page ≡ slice_index l.fn.stamps page;
  others : (page : ℕ) → slice_index l.stamps page < l.now → (i : ℕ) → i < l.place-index → (slice_index_or (cells_of l.change) i (0, 0)).0 / 256 ≢ page;
}
