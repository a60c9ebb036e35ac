use Rattle.std.proofs.Common.{sym, ◌∙◌, arith}
use Rattle.marks_files.specs.Values.{range_of}
use Rattle.word_dis.proofs.Words.{begun, one_more, one_wrong, all_read}
use Rattle.word_dis.proofs.ranges.ranges.Goals as goal

pub loop-word-init : goal.loop-word-init
loop-word-init c = begun (λ w. w.now) range_of c.args.words.now c.new-ranges.result.items c.new-ranges.ensures.items

pub loop-word-preserved : goal.loop-word-preserved
loop-word-preserved c =
    one_more (λ w. w.now) range_of c.args.words.now c.loop-word.word-index c.loop-word.ranges.items c.push.new.self.items _ c.in-Some.range
    c.loop-word.invariant (omega arith)
    (sym (rw c.as_bytes.ensures.value at c.range.ensures) ∙ c.in-Some.is) c.in_ok-push-in-Some.ensures.items

pub returns-in-None : goal.returns-in-None
returns-in-None c =
    one_wrong (λ w. w.now) range_of c.args.words.now c.loop-word.word-index c.loop-word.ranges.items _ c.loop-word.invariant (omega arith)
    (sym (rw c.as_bytes.ensures.value at c.range.ensures) ∙ c.in-None.is)

pub returns : goal.returns
returns c =
    all_read (λ w. w.now) range_of c.args.words.now c.loop-word.word-index c.loop-word.ranges.items c.loop-word.invariant (omega arith)
