use Rattle.std.proofs.Common.{◌≡◌, map, take}
use Rattle.word_info.specs.Facts.{bytes_of, sums_of}
use Rattle.word_info.proofs.checksum.checksums_of.Given as goal

abbrev pub invariant-loop-range : goal.invariant-loop-range
invariant-loop-range l = l.sums.items ≡ map (λ range. sums_of (bytes_of l.memory range)) (take l.range-index l.ranges)
