use Rattle.std.proofs.Common.{[], ◌∷◌, ◌++◌, ◌∙◌, List, ap, arith, map, subst, take}
use Rattle.std.proofs.lemmas.Result.{IfOk-weaker}
use Rattle.json_messages.specs.Values.{list_of}
use Rattle.lsp_answers.specs.Marks.{mark_of}
use Rattle.lsp_answers.specs.Texts.{text_view}
use Rattle.json_messages.proofs.Lists.{all_values, next_value}
use Rattle.json_messages.specs.ValueLists.{HasValues}
use Rattle.lsp_messages.specs.Values.{marks_data}
use Rattle.lsp_answers.specs.declared.kinds.Diagnostic.{Diagnostic}
use Rattle.lsp_answers.proofs.marks.published.Goals as goal

pub loop-one-init : goal.loop-one-init
loop-one-init c = c.new-values.ensures

pub loop-one-preserved : goal.loop-one-preserved
loop-one-preserved c =
    let g = mark_of (text_view c.args.text.now) in
    let i = c.loop-one.one-index in
    let all = c.deref-one-items.result.now in
    next_value g all i c.one-item.result _ (omega (arith, c.loop-one-test.true))
    (subst (λ (d : Diagnostic). HasValues (map g (take i all) ++ g d ∷ []) c.with-values.result) c.one-item.is
    (c.with-values.ensures _ _ c.loop-one.invariant c.mark_of.ensures))

pub returns : goal.returns
returns c =
    let g = mark_of (text_view c.args.text.now) in
    let all = all_values g c.deref-one-items.result.now c.loop-one.one-index _ (omega (arith, c.loop-one-test.false)) c.loop-one.invariant in
    let same = ap (λ (ds : List Diagnostic). marks_data c.args.uri.now (list_of (map g ds))) c.deref-one-items.ensures.value in
    IfOk-weaker c.marks.result _ _ (λ v is. (c.in-Ok.found.items, c.in-Ok.ensures, is ∙ same)) (c.marks.ensures _ (c.build.ensures _ all))
