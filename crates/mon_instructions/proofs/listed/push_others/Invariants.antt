use Rattle.std.proofs.Common.{◌≡◌, ◌++◌, drop}
use Rattle.std.specs.List.{flat_map}
use Rattle.mon_instructions.specs.Listed.{further_byte}
use Rattle.mon_instructions.proofs.listed.push_others.Given as goal

abbrev pub invariant-loop-byte : goal.invariant-loop-byte
invariant-loop-byte l = l.text.items ++ flat_map further_byte (drop l.byte-index l.bytes) ≡ l.initial.text.items ++ flat_map further_byte l.bytes
