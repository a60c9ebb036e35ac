use Rattle.std.proofs.Common.{◌≡◌, ◌++◌, drop}
use Rattle.std.specs.List.{flat_map}
use Rattle.mon_dispatch.specs.LookTexts.{sought_byte}
use Rattle.mon_dispatch.proofs.finding.push_sought.Given as goal

abbrev pub invariant-loop-byte : goal.invariant-loop-byte
invariant-loop-byte l = l.text.items ++ flat_map sought_byte (drop l.byte-index l.bytes) ≡ l.initial.text.items ++ flat_map sought_byte l.bytes
