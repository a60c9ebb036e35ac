use Rattle.std.proofs.Common.{◌≡◌, drop}
use Rattle.papertape.specs.Feeding.{fed_up_to}
use Rattle.papertape.proofs.reader.TapeReader.take_each.Given as goal

abbrev pub invariant-loop-byte : goal.invariant-loop-byte
invariant-loop-byte l = fed_up_to l.limit l.self (drop l.byte-index l.bytes) ≡ fed_up_to l.limit l.initial.self l.bytes
