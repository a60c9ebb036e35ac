use Rattle.std.proofs.Common.{◌≡◌, ◌++◌, drop, map}
use Rattle.trace_rows.specs.Records.{name_byte}
use Rattle.trace_rows.proofs.lcov.push_name.Given as goal

abbrev pub invariant-loop-byte : goal.invariant-loop-byte
invariant-loop-byte l = l.text.items ++ map name_byte (drop l.byte-index l.name) ≡ l.initial.text.items ++ map name_byte l.name
