use Rattle.std.proofs.Common.{◌∙◌, ◌-◌, ◌+◌, arith}
use Rattle.source_notes.proofs.MarkSteps.{blanks_end, blanks_more}
use Rattle.source_notes.proofs.shown.push_blanks_under.Goals as goal

pub loop-at-preserved : goal.loop-at-preserved
loop-at-preserved c = blanks_more c.loop-at.left c.left_after-left.result (c.args.count - c.loop-at.at) (c.args.count - (c.loop-at.at + 1))
    c.loop-at.at c.args.line.now c.after-bytes.result.now
    c.loop-at.text.items c.push_blank.new.text.items (omega (arith, c.loop-at-test.true)) c.after-bytes.ensures c.left_after-left.ensures
    c.in_ok-push_blank.ensures ∙ c.loop-at.invariant

pub returns : goal.returns
returns c = blanks_end c.loop-at.left (c.args.count - c.loop-at.at) _ _ _ (omega arith) c.loop-at.invariant
