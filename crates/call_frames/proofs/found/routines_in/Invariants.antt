use Rattle.std.proofs.Common.{◌≡◌, ◌++◌, drop, map}
use Rattle.call_frames.specs.Found.{routines_in}
use Rattle.source_map.specs.Functions.{function_view}
use Rattle.source_map.specs.Names.{named}
use Rattle.call_frames.proofs.found.routines_in.Given as goal

abbrev pub invariant-loop-name : goal.invariant-loop-name
invariant-loop-name l = l.routines.items ++ routines_in (map function_view l.functions) (map named (drop l.name-index l.names))
    ≡ routines_in (map function_view l.functions) (map named l.names)
