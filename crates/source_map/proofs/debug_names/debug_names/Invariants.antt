use Rattle.std.proofs.Common.{◌≡◌, drop, map}
use Rattle.std.specs.Option.{option_map}
use Rattle.debug_records.specs.Views.{symbol_view}
use Rattle.source_map.specs.DebugNames.{named_by, naming_view, no_name}
use Rattle.source_map.proofs.debug_names.debug_names.Given as goal

abbrev pub invariant-loop-symbol : goal.invariant-loop-symbol
invariant-loop-symbol l = record {
  rest : named_by l.image (naming_view l.naming) (map (option_map symbol_view) (drop l.symbol-index l.symbols))
      ≡ named_by l.image no_name (map (option_map symbol_view) l.symbols);
}
