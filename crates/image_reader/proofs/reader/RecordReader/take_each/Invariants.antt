use Rattle.std.proofs.Common.{◌≡◌, drop}
use Rattle.image_reader.specs.Feeding.{fed}
use Rattle.image_reader.proofs.reader.RecordReader.take_each.Given as goal

abbrev pub invariant-loop-byte : goal.invariant-loop-byte
invariant-loop-byte l = fed l.self (drop l.byte-index l.bytes) ≡ fed l.initial.self l.bytes
