use Rattle.std.proofs.Common.{◌∙◌, ◌++◌, ℕ, [], List, ap, arith, subst}
use Rattle.dap_messages.specs.SeenAnswers.{SeenItem}
use Rattle.dap_session.proofs.Begun.{coming_all, coming_done, coming_more}
use Rattle.dap_session.specs.Completions.{if_begun}
use Rattle.dap_messages.specs.ItemLists.{HasItems}
use Rattle.source_map.specs.Names.{Named, named}
use Rattle.source_map.specs.declared.names.Name.{Name}
use Rattle.dap_session.proofs.completion.names_begun.Goals as goal

pub loop-name-init : goal.loop-name-init
loop-name-init c = ([], c.new-list.ensures, coming_all (λ (n : Named). if_begun c.args.start c.args.typed.now n.text) named c.args.names.now)

pub loop-name-preserved : goal.loop-name-preserved
loop-name-preserved c =
    let begun = if_begun c.args.start c.args.typed.now in
    let so_far = c.loop-name.invariant in
    let has = subst (λ (t : List ℕ). HasItems (so_far.0 ++ begun t) c.with_begun-list.result)
    (c.as_slice.ensures.value ∙ ap (λ (n : Name). n.text.items) c.name-item.is) (c.with_begun-list.ensures so_far.0 so_far.1) in (
      _,
      has,
      coming_more (λ (n : Named). begun n.text) named c.args.names.now c.loop-name.name-index c.name-item.result so_far.0 _
          (omega (arith, c.loop-name-test.true)) so_far.2,
    )

pub returns : goal.returns
returns c =
    let so_far = c.loop-name.invariant in
    subst (λ (ds : List SeenItem). HasItems ds c.loop-name.list)
    (coming_done (λ (n : Named). if_begun c.args.start c.args.typed.now n.text) named c.args.names.now c.loop-name.name-index so_far.0 _
    (omega (arith, c.loop-name-test.false)) so_far.2) so_far.1
