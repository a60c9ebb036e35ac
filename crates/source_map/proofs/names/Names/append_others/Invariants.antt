use Rattle.std.proofs.Common.{◌≡◌, ◌++◌, take}
use Rattle.source_map.specs.Names.{other_names}
use Rattle.source_map.proofs.names.Names.append_others.Given as goal

abbrev pub invariant-loop-index : goal.invariant-loop-index
invariant-loop-index l = record {
  added : l.self ≡ l.fn.self ++ other_names (take l.index l.names);
}
