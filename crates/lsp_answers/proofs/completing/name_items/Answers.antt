use Rattle.std.proofs.Common.{List, arith, map, subst}
use Rattle.json_messages.specs.ValueLists.{HasValues}
use Rattle.lsp_answers.proofs.DefinedSteps.{all_defined, one_more, other_use}
use Rattle.lsp_answers.specs.Completion.{name_item}
use Rattle.lsp_answers.specs.Lists.{defined}
use Rattle.lsp_answers.specs.Texts.{text_view}
use Rattle.name_uses.specs.Views.{use_views}
use Rattle.name_uses.specs.declared.name_use.NameUse.{NameUse}
use Rattle.lsp_answers.proofs.completing.name_items.Goals.{then-one, else-one}
use Rattle.lsp_answers.proofs.completing.name_items.Goals as goal

pub loop-one-preserved : goal.loop-one-preserved
loop-one-preserved c =
    let g = name_item c.args.group.now c.args.symbols.now (text_view c.args.text.now) in
    elim c.if-one.branch [
      | then-one w ↦ rw w.items-is (one_more g c.deref-one-items.result.now c.loop-one.one-index _ _ (omega (arith, c.loop-one-test.true))
          w.if-one.true (w.with-items.ensures _ _ c.loop-one.invariant w.name_item.ensures))
      | else-one w ↦ rw w.items-is (other_use g c.deref-one-items.result.now c.loop-one.one-index _ _ (omega (arith, c.loop-one-test.true))
          w.if-one.false c.loop-one.invariant)
    ]

pub returns : goal.returns
returns c =
    let g = name_item c.args.group.now c.args.symbols.now (text_view c.args.text.now) in
    let all = all_defined g c.deref-one-items.result.now c.loop-one.one-index c.loop-one.items (omega (arith, c.loop-one-test.false)) c.loop-one.invariant in
    subst (λ (us : List NameUse). HasValues (map g (defined (use_views us))) c.loop-one.items) c.deref-one-items.ensures.value all
