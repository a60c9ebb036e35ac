use Rattle.std.proofs.Common.{◌≡◌, ◌∙◌, ◌++◌, List, None, ap, arith, map, subst}
use Rattle.json_messages.proofs.Lists.{all_values, next_value}
use Rattle.json_messages.specs.ValueLists.{HasValues}
use Rattle.lsp_hints.specs.Folds.{all_folds, comment_folds, fold_data, label_folds}
use Rattle.lsp_hints.specs.declared.folds.Fold.{Fold}
use Rattle.source_notes.specs.Lines.{texts_of}
use Rattle.lsp_hints.proofs.folds.folded.Goals as goal

pub loop-fold-init : goal.loop-fold-init
loop-fold-init c = c.new-values.ensures

pub loop-fold-preserved : goal.loop-fold-preserved
loop-fold-preserved c = next_value fold_data c.deref-fold-items.result.now c.loop-fold.fold-index _ _ (omega (arith, c.loop-fold-test.true))
    (c.with-values.ensures _ _ c.loop-fold.invariant c.fold_data.ensures)

pub returns : goal.returns
returns c =
    let lines = texts_of c.args.lines.now in
    let labels = c.in_ok-push_labels.ensures ∙ ap (λ (fs : List Fold). fs ++ label_folds c.args.profile 0 None lines) c.new-folds.ensures.items in
    let all : c.deref-fold-items.result.now ≡ all_folds c.args.profile lines =
    c.deref-fold-items.ensures.value ∙ c.in_ok-push_comments.ensures ∙ ap (λ (fs : List Fold). fs ++ comment_folds 0 None lines) labels in
    c.build.ensures _ (subst (λ (fs : List Fold). HasValues (map fold_data fs) c.loop-fold.values) all
    (all_values fold_data c.deref-fold-items.result.now c.loop-fold.fold-index _ (omega (arith, c.loop-fold-test.false)) c.loop-fold.invariant))
