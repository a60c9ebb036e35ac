use Rattle.std.proofs.Common.{◌≡◌, sym, arith, rules}
use Rattle.remarked_source.proofs.StringLines.{counted}
use Rattle.remarked_source.proofs.strings.text_count.Goals as goal

pub returns-then-not-is_text-clause-exact : goal.returns-then-not-is_text-clause-exact
returns-then-not-is_text-clause-exact c =
    sym (counted c.args.marks.now c.args.most c.args.address c.loop-count.count c.loop-count.invariant.few c.loop-count.invariant.each (λ below. search rules))

pub returns-clause-exact : goal.returns-clause-exact
returns-clause-exact c =
    sym (counted c.args.marks.now c.args.most c.args.address c.loop-count.count c.loop-count.invariant.few c.loop-count.invariant.each
    (λ below. absurd (omega (arith, below, c.loop-count-test.false))))
