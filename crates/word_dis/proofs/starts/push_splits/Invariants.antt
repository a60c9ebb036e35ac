use Rattle.std.proofs.Common.{◌≡◌, ◌++◌, drop}
use Rattle.word_dis.specs.Written.{split_targets}
use Rattle.word_dis.proofs.starts.push_splits.Given as goal

abbrev pub invariant-loop-split : goal.invariant-loop-split
invariant-loop-split l = l.starts.items ++ split_targets l.part (drop l.split-index l.splits) ≡ l.fn.starts.items ++ split_targets l.part l.splits
