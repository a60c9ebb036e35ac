use Rattle.std.proofs.Common.{◌≡◌, ◌++◌, drop, map}
use Rattle.std.specs.List.{flat_map}
use Rattle.source_map.specs.Functions.{local_view}
use Rattle.mon_calls.specs.Locals.{local_text}
use Rattle.mon_calls.proofs.locals.push_rows.Given as goal

abbrev pub invariant-loop-local : goal.invariant-loop-local
invariant-loop-local l =
    l.text.items ++ flat_map (local_text l.tables l.session.current.bus.memory l.frame l.autos) (map local_view (drop l.local-index l.locals))
    ≡ l.initial.text.items ++ flat_map (local_text l.tables l.session.current.bus.memory l.frame l.autos) (map local_view l.locals)
