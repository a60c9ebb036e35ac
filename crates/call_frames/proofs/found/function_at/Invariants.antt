use Rattle.std.proofs.Common.{◌≡◌, drop, map}
use Rattle.call_frames.specs.Found.{function_at}
use Rattle.source_map.specs.Functions.{function_view}
use Rattle.call_frames.proofs.found.function_at.Given as goal

abbrev pub invariant-loop-function : goal.invariant-loop-function
invariant-loop-function l = function_at (map function_view (drop l.function-index l.function-items)) l.address
    ≡ function_at l.places.functions l.address
