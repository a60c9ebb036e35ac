use Rattle.std.proofs.Common.{◌≡◌, length, take}
use Rattle.model.specs.State.{memory_of}
use Rattle.memory_map.proofs.image.Image.fill.Given as goal

abbrev pub invariant-loop-address : goal.invariant-loop-address
invariant-loop-address l = record {
  size : length l.memory.items ≡ 65536;
  front : take l.address l.memory.items ≡ take l.address (memory_of l.self);
}
