use Rattle.std.proofs.Common.{◌≡◌, ◌+◌, drop}
use Rattle.model.specs.Image.{with_bytes, IsImage}
use Rattle.memory_map.proofs.image.Image.store.Given as goal

abbrev pub invariant-loop-i : goal.invariant-loop-i
invariant-loop-i l = record {
  image : IsImage l.self-inside.cells.items;
  rest : with_bytes l.self-inside.cells.items (l.address + l.i) (drop l.i l.bytes) ≡ with_bytes l.initial.self-inside.cells.items l.address l.bytes;
}
