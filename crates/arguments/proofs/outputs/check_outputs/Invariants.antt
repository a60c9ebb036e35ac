use Rattle.std.proofs.Common.{◌≡◌, ◌++◌, drop, map, take}
use Rattle.arguments.specs.Outputs.{clash, named}
use Rattle.arguments.proofs.outputs.check_outputs.Given as goal

abbrev pub invariant-loop-at : goal.invariant-loop-at
invariant-loop-at g l =
    clash (map named l.read) (map named l.written) ≡ clash (map named l.read ++ take l.at (map named l.written)) (drop l.at (map named l.written))
