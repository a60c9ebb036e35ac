use Rattle.std.proofs.Common.{◌∙◌, ◌++◌, List, ap, append-nil, arith, subst, sym}
use Rattle.std.specs.List.{flat_map}
use Rattle.json_messages.specs.ValueLists.{HasValues}
use Rattle.lsp_answers.proofs.FlatSteps.{taken_all, taken_more}
use Rattle.lsp_answers.specs.Search.{found_of}
use Rattle.lsp_answers.specs.Texts.{text_view}
use Rattle.name_uses.specs.Views.{use_view, use_views}
use Rattle.name_uses.specs.declared.name_use.NameUse.{NameUse}
use Rattle.serde_json.specs.Data.{Data}
use Rattle.lsp_answers.proofs.search.with_names.Goals as goal

pub loop-one-init : goal.loop-one-init
loop-one-init c ds has = subst (λ (es : List Data). HasValues es c.args.found) (sym (append-nil ds)) has

pub loop-one-preserved : goal.loop-one-preserved
loop-one-preserved c ds has =
    let f = found_of c.args.uri.now (text_view c.args.text.now) c.args.query.now in
    subst (λ (es : List Data). HasValues es c.with_name-all.result)
    (taken_more f use_view ds c.deref-one-items.result.now c.loop-one.one-index _ (omega (arith, c.loop-one-test.true)))
    (c.with_name-all.ensures _ (c.loop-one.invariant ds has))

pub returns : goal.returns
returns c ds has =
    let f = found_of c.args.uri.now (text_view c.args.text.now) c.args.query.now in
    subst (λ (es : List Data). HasValues es c.loop-one.all)
    (taken_all f use_view ds c.deref-one-items.result.now c.loop-one.one-index (omega (arith, c.loop-one-test.false))
    ∙ ap (λ (us : List NameUse). ds ++ flat_map f (use_views us)) c.deref-one-items.ensures.value)
    (c.loop-one.invariant ds has)
