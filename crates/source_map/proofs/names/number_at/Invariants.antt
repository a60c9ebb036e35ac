use Rattle.std.proofs.Common.{◌≡◌, drop, map}
use Rattle.source_map.specs.Names.{first_text, is_name_at, named}
use Rattle.source_map.proofs.names.number_at.Given as goal

abbrev pub invariant-loop-name : goal.invariant-loop-name
invariant-loop-name l = record {
  rest : first_text (is_name_at l.address) (map named l.names) ≡ first_text (is_name_at l.address) (map named (drop l.name-index l.names));
}
