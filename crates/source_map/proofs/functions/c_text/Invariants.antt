use Rattle.std.proofs.Common.{◌≡◌, drop, map}
use Rattle.std.specs.Option.{option_map}
use Rattle.debug_records.specs.Views.{c_symbol_view}
use Rattle.source_map.specs.Functions.{c_text}
use Rattle.source_map.proofs.functions.c_text.Given as goal

abbrev pub invariant-loop-name : goal.invariant-loop-name
invariant-loop-name l = record {
  rest : c_text l.symbol (map (option_map c_symbol_view) l.names) ≡ c_text l.symbol (map (option_map c_symbol_view) (drop l.name-index l.names));
}
