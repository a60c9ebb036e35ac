use Rattle.std.proofs.Common.{◌≡◌, drop}
use Rattle.c_frames.specs.Frames.{function_at}
use Rattle.c_frames.proofs.walk.function_at.Given as goal

abbrev pub invariant-loop-function : goal.invariant-loop-function
invariant-loop-function l = function_at (drop l.function-index l.functions) l.address ≡ function_at l.functions l.address
