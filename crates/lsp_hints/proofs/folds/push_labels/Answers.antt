use Rattle.std.proofs.Common.{arith, sym, ◌∙◌}
use Rattle.std.proofs.lemmas.Result.{IfOk-weaker}
use Rattle.lsp_hints.proofs.FoldSteps.{label_here, labels_end, no_label}
use Rattle.lsp_hints.proofs.Gathered.{gathered, gathered_last, passed}
use Rattle.lsp_hints.proofs.folds.push_labels.Goals.{then-is_label+in_ok-push_fold, else-is_label}
use Rattle.lsp_hints.proofs.folds.push_labels.Goals as goal

pub loop-index-preserved : goal.loop-index-preserved
loop-index-preserved c =
    elim c.if-is_label.branch [
      | then-is_label+in_ok-push_fold w ↦
          rw (w.folds-is, w.from-is) (gathered c.loop-index.folds.items _ _ _ _ _ w.in_ok-push_fold.ensures
          (label_here c.args.profile c.loop-index.from c.loop-index.index c.args.lines.now _ (omega (arith, c.loop-index-test.true))
          (sym c.in_ok-is_label.ensures ∙ w.if-is_label.true)) c.loop-index.invariant)
      | else-is_label w ↦
          rw (w.folds-is, w.from-is) (passed c.loop-index.folds.items _ _ _
          (no_label c.args.profile c.loop-index.from c.loop-index.index c.args.lines.now _ (omega (arith, c.loop-index-test.true))
          (sym c.in_ok-is_label.ensures ∙ w.if-is_label.false)) c.loop-index.invariant)
    ]

pub returns : goal.returns
returns c = IfOk-weaker c.push_fold-2.result _ _ (λ v put. gathered_last c.loop-index.folds.items _ _ _ _ put
    (labels_end c.args.profile c.loop-index.from c.loop-index.index c.args.lines.now
    (omega (arith, c.loop-index-test.false, c.loop-index.auto.index-end))) c.loop-index.invariant) c.push_fold-2.ensures
