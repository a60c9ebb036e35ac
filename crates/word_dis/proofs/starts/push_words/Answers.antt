use Rattle.std.proofs.Common.{◌≡◌, arith}
use Rattle.word_dis.proofs.StartsFound.{ended, none, one_more}
use Rattle.word_dis.proofs.starts.push_words.Goals as goal

pub returns-then-last-at : goal.returns-then-last-at
returns-then-last-at c =
    ended c.args.part.now c.args.more c.loop-left.left c.loop-left.at c.args.range.1 c.loop-left.starts.items _ (omega arith) c.loop-left.invariant.found

pub loop-left-preserved : goal.loop-left-preserved
loop-left-preserved c = record {
  found = one_more c.args.part.now c.args.more c.loop-left.left c.loop-left.at _ c.loop-left.starts.items c.push_word.new.starts.items _ (omega arith)
      (omega arith) c.in_ok-push_word.ensures c.loop-left.invariant.found;
  near = omega (arith, c.loop-left.invariant.near);
}

pub returns : goal.returns
returns c =
    let end : c.loop-left.left ≡ 0 = omega (arith, c.loop-left-test.false) in
    none c.args.part.now c.args.more c.loop-left.at c.args.range.1 c.loop-left.starts.items _ (rw end at c.loop-left.invariant.found)
