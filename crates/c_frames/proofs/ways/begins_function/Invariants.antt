use Rattle.std.proofs.Common.{◌≡◌, drop}
use Rattle.c_frames.specs.Ways.{begins_function}
use Rattle.c_frames.proofs.ways.begins_function.Given as goal

abbrev pub invariant-loop-function : goal.invariant-loop-function
invariant-loop-function l = begins_function (drop l.function-index l.functions) l.address ≡ begins_function l.functions l.address
