use Rattle.std.proofs.Common.{◌≡◌, map, take}
use Rattle.clean_source.specs.Cleaned.{seen_byte}
use Rattle.clean_source.proofs.line.seen.Given as goal

abbrev pub invariant-loop-byte : goal.invariant-loop-byte
invariant-loop-byte l = l.seen.items ≡ map seen_byte (take l.byte-index l.line)
