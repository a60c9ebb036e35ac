use Rattle.std.proofs.Common.{◌≡◌, ◌++◌, drop}
use Rattle.std.specs.List.{flat_map}
use Rattle.mon_instructions.specs.Made.{blanked_byte}
use Rattle.mon_instructions.proofs.made.push_line_bytes.Given as goal

abbrev pub invariant-loop-byte : goal.invariant-loop-byte
invariant-loop-byte l = l.text.items ++ flat_map blanked_byte (drop l.byte-index l.line) ≡ l.initial.text.items ++ flat_map blanked_byte l.line
