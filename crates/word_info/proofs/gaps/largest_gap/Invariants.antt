use Rattle.std.proofs.Common.{◌≡◌, drop}
use Rattle.std.specs.List.{fold}
use Rattle.word_info.specs.Facts.{larger_gap, largest_gap}
use Rattle.word_info.specs.Steps.{gaps_left}
use Rattle.word_info.proofs.gaps.largest_gap.Given as goal

abbrev pub invariant-loop-high : goal.invariant-loop-high
invariant-loop-high l = fold larger_gap l.best (gaps_left l.last (drop l.high-index l.ranges)) ≡ largest_gap l.ranges
