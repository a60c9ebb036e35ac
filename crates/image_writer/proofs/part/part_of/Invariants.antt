use Rattle.std.proofs.Common.{◌≡◌, ◌&&◌, leb, ltb, cond, length, ℕ, None}
use Rattle.model.specs.Image.{cell_at}
use Rattle.image_writer.specs.Window.{filled_with}
use Rattle.image_writer.proofs.part.part_of.Given as goal

abbrev pub invariant-loop-address : goal.invariant-loop-address
invariant-loop-address l = record {
  size : length l.part ≡ 65536;
  each : (k : ℕ) → cell_at l.part k ≡ cond (leb l.low k && ltb k l.address) (filled_with l.fill (cell_at l.image k)) None;
}
