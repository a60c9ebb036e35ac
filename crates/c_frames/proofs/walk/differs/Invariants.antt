use Rattle.std.proofs.Common.{◌≡◌}
use Rattle.c_frames.specs.Frames.{differs}
use Rattle.c_frames.proofs.walk.differs.Given as goal

abbrev pub invariant-loop-count : goal.invariant-loop-count
invariant-loop-count l = l.found ≡ differs l.depths l.function.start l.count
