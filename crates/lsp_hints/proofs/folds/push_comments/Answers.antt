use Rattle.std.proofs.Common.{arith, sym, ◌∙◌}
use Rattle.std.proofs.lemmas.Result.{IfOk-weaker}
use Rattle.lsp_hints.proofs.FoldSteps.{comment_here, comments_end, no_comment}
use Rattle.lsp_hints.proofs.Gathered.{gathered, gathered_last, passed}
use Rattle.lsp_hints.proofs.folds.push_comments.Goals.{then-begins_with, else-begins_with+in_ok-push_fold}
use Rattle.lsp_hints.proofs.folds.push_comments.Goals as goal

pub loop-index-preserved : goal.loop-index-preserved
loop-index-preserved c =
    let comment = sym (rw (c.after.ensures, c.blank_run.ensures) at c.begins_with.ensures) in
    elim c.if-begins_with.branch [
      | then-begins_with w ↦
          rw (w.folds-is, w.from-is, w.unwrap_or.ensures) (passed c.loop-index.folds.items _ _ _
          (comment_here c.loop-index.from c.loop-index.index c.args.lines.now _ (omega (arith, c.loop-index-test.true))
          (comment ∙ w.if-begins_with.true)) c.loop-index.invariant)
      | else-begins_with+in_ok-push_fold w ↦
          rw (w.folds-is, w.from-is) (gathered c.loop-index.folds.items _ _ _ _ _ w.in_ok-push_fold.ensures
          (no_comment c.loop-index.from c.loop-index.index c.args.lines.now _ (omega (arith, c.loop-index-test.true))
          (comment ∙ w.if-begins_with.false)) c.loop-index.invariant)
    ]

pub returns : goal.returns
returns c = IfOk-weaker c.push_fold-2.result _ _ (λ v put. gathered_last c.loop-index.folds.items _ _ _ _ put
    (comments_end c.loop-index.from c.loop-index.index c.args.lines.now (omega (arith, c.loop-index-test.false, c.loop-index.auto.index-end)))
    c.loop-index.invariant) c.push_fold-2.ensures
