use Rattle.std.proofs.Common.{List, arith, subst, sym}
use Rattle.std.proofs.lemmas.Simd.{map-map}
use Rattle.lsp_answers.specs.Texts.{text_view, use_range}
use Rattle.lsp_messages.specs.Values.{edit_data}
use Rattle.json_messages.proofs.Lists.{all_values, next_value}
use Rattle.json_messages.specs.ValueLists.{HasValues}
use Rattle.name_uses.specs.Uses.{Use}
use Rattle.name_uses.specs.Views.{use_view}
use Rattle.name_uses.specs.declared.name_use.NameUse.{NameUse}
use Rattle.serde_json.specs.Data.{Data}
use Rattle.lsp_answers.proofs.renaming.changed.Goals as goal

pub loop-one-init : goal.loop-one-init
loop-one-init c = c.new-found.ensures

pub loop-one-preserved : goal.loop-one-preserved
loop-one-preserved c = next_value (λ (u : NameUse). edit_data c.args.word.now (use_range (text_view c.args.text.now) (use_view u))) c.args.uses.now
    c.loop-one.one-index _ c.with-found.result (omega (arith, c.loop-one-test.true))
    (c.with-found.ensures _ _ c.loop-one.invariant (c.edit.ensures _ c.range_of.ensures))

pub returns : goal.returns
returns c =
    let g = λ (u : Use). edit_data c.args.word.now (use_range (text_view c.args.text.now) u) in
    let all = all_values (λ (u : NameUse). g (use_view u)) c.args.uses.now c.loop-one.one-index c.loop-one.found
    (omega (arith, c.loop-one-test.false)) c.loop-one.invariant in
    c.changes.ensures _ (c.build.ensures _ (subst (λ (ds : List Data). HasValues ds c.loop-one.found) (sym (map-map g use_view c.args.uses.now)) all))
