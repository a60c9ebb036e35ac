use Rattle.std.proofs.Common.{◌≡◌, drop}
use Rattle.word_dis.specs.Marks.{lies_in_one}
use Rattle.word_dis.proofs.marks.lies_in_one.Given as goal

abbrev pub invariant-loop-range : goal.invariant-loop-range
invariant-loop-range l = lies_in_one (drop l.range-index l.ranges) l.address ≡ lies_in_one l.ranges l.address
