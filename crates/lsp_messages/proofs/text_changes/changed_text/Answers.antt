use Rattle.std.proofs.Common.{◌∙◌, ap, arith, sym}
use Rattle.lsp_messages.proofs.TextSteps.{no_changes, one_change}
use Rattle.lsp_messages.specs.TextChanges.{ChangeView, change_of, changed_by, text_view}
use Rattle.serde_json.specs.View.{view}
use Rattle.serde_json.specs.declared.value.Value.{Value}
use Rattle.lsp_messages.proofs.text_changes.changed_text.Goals as goal

pub loop-change-preserved : goal.loop-change-preserved
loop-change-preserved c =
    let text = text_view c.loop-change.made in
    let read = c.change_of.ensures ∙ ap (λ (v : Value). change_of (view v)) c.change-item.is in
    let made = c.in_ok-made-2.ensures ∙ ap (λ (change : ChangeView). changed_by text change) read in
    sym (one_change text (text_view c.in_ok-made-2.made) c.args.changes.now c.loop-change.change-index c.change-item.result
    (omega (arith, c.loop-change-test.true)) made) ∙ c.loop-change.invariant

pub returns : goal.returns
returns c = sym (no_changes (text_view c.loop-change.made) c.args.changes.now c.loop-change.change-index (omega (arith, c.loop-change-test.false)))
    ∙ c.loop-change.invariant
