use Rattle.std.proofs.Common.{◌≡◌, None, replicate}
use Rattle.memory_map.proofs.image.Image.new.Given as goal

abbrev pub invariant-loop : goal.invariant-loop
invariant-loop l = l.cells.items ≡ replicate l.counter None
