use Rattle.std.proofs.Common.{◌≡◌, ◌++◌, drop}
use Rattle.std.specs.List.{flat_map}
use Rattle.mon_instructions.specs.Instructions.{byte_column}
use Rattle.mon_instructions.proofs.instructions.push_bytes.Given as goal

abbrev pub invariant-loop-byte : goal.invariant-loop-byte
invariant-loop-byte l = l.text.items ++ flat_map byte_column (drop l.byte-index l.bytes) ≡ l.initial.text.items ++ flat_map byte_column l.bytes
