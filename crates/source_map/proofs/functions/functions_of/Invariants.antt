use Rattle.std.proofs.Common.{◌≤◌, length, map}
use Rattle.debug_records.specs.Views.{info_view}
use Rattle.source_map.specs.Functions.{function_view}
use Rattle.source_map.proofs.InFunctions.{Left}
use Rattle.source_map.proofs.functions.functions_of.Given as goal

abbrev pub invariant-loop-number : goal.invariant-loop-number
invariant-loop-number l = record {
  few : l.number ≤ length l.info.scopes.items;
  left : Left (info_view l.info) (map function_view l.functions.items) l.number;
}
