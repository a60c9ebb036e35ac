use Rattle.std.proofs.Common.{◌∙◌, ◌++◌, take, sym, ap, arith, append-nil}
use Rattle.t65_reports.proofs.RowText.{comment_end, comment_found, comment_more}
use Rattle.t65_reports.proofs.reports.without_comment.Goals as goal

pub returns-then-begins_comment : goal.returns-then-begins_comment
returns-then-begins_comment c =
    sym (append-nil (take c.loop-at.at c.args.line.now))
    ∙ (ap (λ t. take c.loop-at.at c.args.line.now ++ t) (sym
    (comment_found c.loop-at.at c.loop-at.quoted c.args.line.now c.loop-at-test.true (sym c.begins_comment.ensures ∙ c.if-begins_comment.true)))
    ∙ c.loop-at.invariant)

pub loop-at-preserved : goal.loop-at-preserved
loop-at-preserved c = comment_more c.loop-at.at c.loop-at.quoted _ c.args.line.now c.loop-at-test.true
    (sym c.begins_comment.ensures ∙ c.if-begins_comment.false) c.behind-quoted.ensures ∙ c.loop-at.invariant

pub returns : goal.returns
returns c = sym (comment_end c.loop-at.at c.loop-at.quoted c.args.line.now (omega arith)) ∙ c.loop-at.invariant
