use Rattle.std.proofs.Common.{◌≡◌, map, take}
use Rattle.source_map.specs.Functions.{function_view as view_in_map}
use Rattle.t65_reader.specs.CPrograms.{function_view}
use Rattle.t65_suites.specs.CFunctions.{called_function}
use Rattle.t65_suites.proofs.c_functions.called_functions.Given as goal

abbrev pub invariant-loop-function : goal.invariant-loop-function
invariant-loop-function l = map function_view l.called.items
    ≡ map (called_function l.tables) (map view_in_map (take l.function-index l.functions))
