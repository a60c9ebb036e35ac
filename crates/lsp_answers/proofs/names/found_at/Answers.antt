use Rattle.std.proofs.Common.{◌∙◌, List, Option, ap, arith, map, subst, sym}
use Rattle.std.proofs.lemmas.Result.{IfOk-weaker}
use Rattle.std.proofs.lemmas.Simd.{map-map}
use Rattle.lsp_answers.specs.Names.{locations_by}
use Rattle.lsp_answers.specs.Texts.{text_view, use_range}
use Rattle.lsp_messages.specs.Values.{location_data}
use Rattle.json_messages.proofs.Lists.{all_values, next_value}
use Rattle.json_messages.specs.ValueLists.{HasValues}
use Rattle.name_uses.specs.Uses.{Use}
use Rattle.name_uses.specs.Views.{use_view, use_views}
use Rattle.name_uses.specs.declared.name_use.NameUse.{NameUse}
use Rattle.serde_json.specs.Data.{Data}
use Rattle.lsp_answers.proofs.names.found_at.Goals as goal

pub loop-one-init : goal.loop-one-init
loop-one-init c = c.new-found.ensures

pub loop-one-preserved : goal.loop-one-preserved
loop-one-preserved c = next_value (λ (u : NameUse). location_data c.args.uri.now (use_range (text_view c.args.text.now) (use_view u)))
    c.deref-one-items.result.now c.loop-one.one-index _ _ (omega (arith, c.loop-one-test.true))
    (c.with-found.ensures _ _ c.loop-one.invariant (c.location.ensures _ c.range_of.ensures))

pub returns : goal.returns
returns c =
    let t = text_view c.args.text.now in
    let g = λ (u : Use). location_data c.args.uri.now (use_range t u) in
    let all = all_values (λ (u : NameUse). g (use_view u)) c.deref-one-items.result.now c.loop-one.one-index c.loop-one.found
    (omega (arith, c.loop-one-test.false)) c.loop-one.invariant in
    let uses = rw c.deref.ensures.value at c.in-Ok.ensures in
    let same = sym (map-map g use_view c.deref-one-items.result.now) ∙ ap (map g) (ap use_views c.deref-one-items.ensures.value ∙ uses) in
    let named = ap (λ (o : Option Use). locations_by c.args.uri.now t c.args.part o) c.in-Some.ensures in
    IfOk-weaker c.build.result _ _ (λ v is. is ∙ named) (c.build.ensures _ (subst (λ (ds : List Data). HasValues ds c.loop-one.found) same all))
