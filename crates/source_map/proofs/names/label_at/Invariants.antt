use Rattle.std.proofs.Common.{◌≡◌, drop, map}
use Rattle.source_map.specs.Names.{first_text, is_label_at, named}
use Rattle.source_map.proofs.names.label_at.Given as goal

abbrev pub invariant-loop-name : goal.invariant-loop-name
invariant-loop-name l = record {
  rest : first_text (is_label_at l.address) (map named l.names) ≡ first_text (is_label_at l.address) (map named (drop l.name-index l.names));
}
