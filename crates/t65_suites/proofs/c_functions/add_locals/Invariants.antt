use Rattle.std.proofs.Common.{◌≡◌, drop, map}
use Rattle.source_map.specs.Functions.{local_view}
use Rattle.t65_suites.specs.CFunctions.{sizing_view, with_locals}
use Rattle.t65_suites.proofs.c_functions.add_locals.Given as goal

abbrev pub invariant-loop-local : goal.invariant-loop-local
invariant-loop-local l = with_locals (sizing_view l.sizing) (map local_view (drop l.local-index l.locals))
    ≡ with_locals (sizing_view l.fn.sizing) (map local_view l.locals)
