use Rattle.std.proofs.Common.{◌≡◌, ◌<◌, take}
use Rattle.std.specs.List.{fold}
use Rattle.word_info.specs.Facts.{add_16}
use Rattle.word_info.proofs.checksum.sum_16.Given as goal

abbrev pub invariant-loop-byte : goal.invariant-loop-byte
invariant-loop-byte l = record {
  sum : l.sum ≡ fold add_16 0 (take l.byte-index l.bytes);
  small : l.sum < 65536;
}
