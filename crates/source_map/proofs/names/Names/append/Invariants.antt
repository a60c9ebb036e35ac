use Rattle.std.proofs.Common.{◌≡◌, ◌++◌, take}
use Rattle.source_map.specs.Names.{named_numbers, names_of}
use Rattle.source_map.proofs.names.Names.append.Given as goal

abbrev pub invariant-loop-index : goal.invariant-loop-index
invariant-loop-index l = record {
  added : l.self ≡ l.fn.self ++ names_of l.assembly.image (take l.index (named_numbers l.assembly));
}
