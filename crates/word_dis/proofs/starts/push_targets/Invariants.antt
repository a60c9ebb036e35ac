use Rattle.std.proofs.Common.{◌≡◌, ◌++◌, drop}
use Rattle.word_dis.specs.Written.{targets}
use Rattle.word_dis.proofs.starts.push_targets.Given as goal

abbrev pub invariant-loop-range : goal.invariant-loop-range
invariant-loop-range l = l.starts.items ++ targets l.part l.more (drop l.range-index l.ranges) ≡ l.fn.starts.items ++ targets l.part l.more l.ranges
