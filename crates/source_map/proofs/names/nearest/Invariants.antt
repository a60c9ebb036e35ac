use Rattle.std.proofs.Common.{◌≡◌, None, drop, map}
use Rattle.source_map.specs.Names.{named, near_view, nearest_from}
use Rattle.source_map.proofs.names.nearest.Given as goal

abbrev pub invariant-loop-name : goal.invariant-loop-name
invariant-loop-name l = record {
  rest : nearest_from l.is_label l.address None (map named l.names)
      ≡ nearest_from l.is_label l.address (near_view l.found) (map named (drop l.name-index l.names));
}
