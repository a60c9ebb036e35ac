use Rattle.std.proofs.Common.{◌≡◌, take}
use Rattle.std.specs.List.{fold}
use Rattle.word_info.specs.Crc.{crc_byte}
use Rattle.word_info.proofs.checksum.crc_32.Given as goal

abbrev pub invariant-loop-byte : goal.invariant-loop-byte
invariant-loop-byte l = l.crc ≡ fold crc_byte 4294967295 (take l.byte-index l.bytes)
