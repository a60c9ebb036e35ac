use Rattle.std.proofs.Common.{◌≡◌, drop, map}
use Rattle.t65_reader.specs.CPrograms.{find_function, function_view}
use Rattle.t65_reader.proofs.c_program.find_function.Given as goal

abbrev pub invariant-loop-function : goal.invariant-loop-function
invariant-loop-function l = find_function l.word (map function_view l.functions)
    ≡ find_function l.word (map function_view (drop l.function-index l.functions))
