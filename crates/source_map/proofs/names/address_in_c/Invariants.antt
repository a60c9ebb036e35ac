use Rattle.std.proofs.Common.{◌≡◌, drop, map}
use Rattle.source_map.specs.Names.{first_address, has_c_text, named}
use Rattle.source_map.proofs.names.address_in_c.Given as goal

abbrev pub invariant-loop-name : goal.invariant-loop-name
invariant-loop-name l = record {
  rest : first_address (has_c_text l.text) (map named l.names) ≡ first_address (has_c_text l.text) (map named (drop l.name-index l.names));
}
