use Rattle.std.proofs.Common.{◌∙◌, ◌-◌, arith, drop, length, take}
use Rattle.source_notes.proofs.MarkSteps.{rest_is, shown_end, shown_more}
use Rattle.source_notes.proofs.shown.push_shown.Goals as goal

pub loop-at-preserved : goal.loop-at-preserved
loop-at-preserved c = shown_more c.loop-at.left c.left_after-left.result c.shown_byte.result c.loop-at.at c.args.line.now
    (take (length c.args.line.now - c.loop-at.at) (drop c.loop-at.at c.args.line.now))
    c.loop-at.text.items c.push.new.self.items c.loop-at-test.true (rest_is c.loop-at.at c.args.line.now) c.left_after-left.ensures
    c.shown_byte.ensures c.in_ok-push.ensures.items
    ∙ c.loop-at.invariant

pub returns : goal.returns
returns c = shown_end c.loop-at.left c.loop-at.at c.args.line.now c.loop-at.text.items _ (omega (arith, c.loop-at-test.false)) c.loop-at.invariant
