use Rattle.std.proofs.Common.{◌∙◌, List, Option, ap, arith, map, subst, sym}
use Rattle.std.proofs.lemmas.Result.{IfOk-weaker}
use Rattle.std.proofs.lemmas.Simd.{map-map}
use Rattle.lsp_answers.specs.Names.{highlight_of, highlights_by}
use Rattle.lsp_answers.specs.Texts.{text_view}
use Rattle.json_messages.proofs.Lists.{all_values, next_value}
use Rattle.json_messages.specs.ValueLists.{HasValues}
use Rattle.name_uses.specs.Uses.{Use}
use Rattle.name_uses.specs.Views.{use_view, use_views}
use Rattle.name_uses.specs.declared.name_use.NameUse.{NameUse}
use Rattle.serde_json.specs.Data.{Data}
use Rattle.lsp_answers.proofs.names.highlights.Goals as goal

pub loop-one-init : goal.loop-one-init
loop-one-init c = c.new-found.ensures

pub loop-one-preserved : goal.loop-one-preserved
loop-one-preserved c = next_value (λ (u : NameUse). highlight_of (text_view c.args.text.now) (use_view u)) c.deref-one-items.result.now
    c.loop-one.one-index _ _ (omega (arith, c.loop-one-test.true)) (c.with-found.ensures _ _ c.loop-one.invariant c.highlight_of.ensures)

pub returns : goal.returns
returns c =
    let t = text_view c.args.text.now in
    let all = all_values (λ (u : NameUse). highlight_of t (use_view u)) c.deref-one-items.result.now c.loop-one.one-index c.loop-one.found
    (omega (arith, c.loop-one-test.false)) c.loop-one.invariant in
    let uses = rw c.deref.ensures.value at c.in-Ok.ensures in
    let same = sym (map-map (highlight_of t) use_view c.deref-one-items.result.now)
    ∙ ap (map (highlight_of t)) (ap use_views c.deref-one-items.ensures.value ∙ uses) in
    let named = ap (λ (o : Option Use). highlights_by t o) c.in-Some.ensures in
    IfOk-weaker c.build.result _ _ (λ v is. is ∙ named) (c.build.ensures _ (subst (λ (ds : List Data). HasValues ds c.loop-one.found) same all))
