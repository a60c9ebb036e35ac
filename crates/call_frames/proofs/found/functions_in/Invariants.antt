use Rattle.std.proofs.Common.{◌≡◌, ◌++◌, drop, map}
use Rattle.call_frames.specs.Found.{functions_in}
use Rattle.source_map.specs.Functions.{function_view}
use Rattle.call_frames.proofs.found.functions_in.Given as goal

abbrev pub invariant-loop-function : goal.invariant-loop-function
invariant-loop-function l = l.found.items ++ functions_in (map function_view (drop l.function-index l.functions))
    ≡ functions_in (map function_view l.functions)
