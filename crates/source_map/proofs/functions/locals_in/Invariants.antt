use Rattle.std.proofs.Common.{◌≡◌, ◌++◌, drop, map}
use Rattle.std.specs.Option.{option_map}
use Rattle.debug_records.specs.Views.{c_symbol_view}
use Rattle.source_map.specs.Functions.{local_view, locals_from, locals_in}
use Rattle.source_map.proofs.functions.locals_in.Given as goal

abbrev pub invariant-loop-name : goal.invariant-loop-name
invariant-loop-name l = map local_view l.locals.items ++ locals_from l.scope l.follows (map (option_map c_symbol_view) (drop l.name-index l.names))
    ≡ locals_in l.scope (map (option_map c_symbol_view) l.names)
