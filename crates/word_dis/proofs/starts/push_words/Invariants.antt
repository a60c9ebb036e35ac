use Rattle.std.proofs.Common.{◌++◌, ◌+◌, ◌*◌, ◌≤◌}
use Rattle.word_dis.specs.Written.{words_between}
use Rattle.word_dis.proofs.StartsFound.{AreFound}
use Rattle.word_dis.proofs.starts.push_words.Given as goal

abbrev pub invariant-loop-left : goal.invariant-loop-left
invariant-loop-left l = record {
  found : AreFound l.part l.more l.starts.items l.left l.at l.last (l.fn.starts.items ++ words_between l.part l.more 32768 l.fn.range.0 l.fn.range.1);
  near : l.at + 2 * l.left ≤ 131071;
}

abbrev pub decreases-loop-left : goal.decreases-loop-left
decreases-loop-left l = l.left
