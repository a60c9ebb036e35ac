use Rattle.std.proofs.Common.{arith}
use Rattle.word_dis.proofs.Runs.{in_run, no_run}
use Rattle.word_dis.proofs.fill.is_in_run.Goals as goal

pub returns-then-begins_before-clause-yes : goal.returns-then-begins_before-clause-yes
returns-then-begins_before-clause-yes c = λ t.
    in_run c.args.image.now c.args.fill c.args.address c.loop-back.back (omega arith) (c.begins_before.ensures.low c.if-begins_before.true)
    (c.begins_before.ensures.yes c.if-begins_before.true)

pub returns-clause-no : goal.returns-clause-no
returns-clause-no c = λ f. no_run c.args.image.now c.args.fill c.args.address (λ back short low. c.loop-back.invariant back (omega (arith, short)) low)
