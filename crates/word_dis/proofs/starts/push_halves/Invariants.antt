use Rattle.std.proofs.Common.{◌≡◌, ◌++◌}
use Rattle.word_dis.specs.Written.{half_targets}
use Rattle.word_dis.proofs.starts.push_halves.Given as goal

abbrev pub invariant-loop-index : goal.invariant-loop-index
invariant-loop-index l = l.starts.items ≡ l.fn.starts.items ++ half_targets l.part l.split l.index
