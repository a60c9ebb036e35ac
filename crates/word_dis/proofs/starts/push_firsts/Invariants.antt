use Rattle.std.proofs.Common.{◌≡◌, ◌++◌, drop}
use Rattle.word_dis.specs.Written.{firsts}
use Rattle.word_dis.proofs.starts.push_firsts.Given as goal

abbrev pub invariant-loop-range : goal.invariant-loop-range
invariant-loop-range l = l.starts.items ++ firsts (drop l.range-index l.ranges) ≡ l.fn.starts.items ++ firsts l.ranges
