use Rattle.std.proofs.Common.{◌≡◌, drop, map}
use Rattle.call_frames.specs.Found.{begins_function}
use Rattle.source_map.specs.Functions.{function_view}
use Rattle.call_frames.proofs.found.begins_function.Given as goal

abbrev pub invariant-loop-function : goal.invariant-loop-function
invariant-loop-function l = begins_function (map function_view (drop l.function-index l.functions)) l.address
    ≡ begins_function (map function_view l.functions) l.address
