use Rattle.std.proofs.Common.{◌≡◌, ◌++◌, drop}
use Rattle.hex.specs.Hex.{encode_upper}
use Rattle.image_writer.proofs.record.push_all_digits.Given as goal

abbrev pub invariant-loop-byte : goal.invariant-loop-byte
invariant-loop-byte l = l.out.items ++ encode_upper (drop l.byte-index l.bytes) ≡ l.initial.out.items ++ encode_upper l.bytes
