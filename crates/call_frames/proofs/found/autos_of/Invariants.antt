use Rattle.std.proofs.Common.{◌≡◌, ◌++◌, drop, map}
use Rattle.call_frames.specs.Found.{autos_of}
use Rattle.source_map.specs.Functions.{local_view}
use Rattle.call_frames.proofs.found.autos_of.Given as goal

abbrev pub invariant-loop-local : goal.invariant-loop-local
invariant-loop-local l = l.autos.items ++ autos_of (map local_view (drop l.local-index l.locals)) ≡ autos_of (map local_view l.locals)
