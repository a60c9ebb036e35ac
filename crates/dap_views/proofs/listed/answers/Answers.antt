use Rattle.std.proofs.Common.{[], List, arith, refl, subst}
use Rattle.dap_messages.specs.SeenAnswers.{SeenItem}
use Rattle.dap_views.proofs.Numbered.{answers_done, answers_more}
use Rattle.dap_messages.specs.ItemLists.{HasItems}
use Rattle.dap_views.proofs.listed.answers.Goals as goal

pub loop-wanted-init : goal.loop-wanted-init
loop-wanted-init c = ([], c.new-list.ensures, refl)

pub loop-wanted-preserved : goal.loop-wanted-preserved
loop-wanted-preserved c =
    let so_far = c.loop-wanted.invariant in (
      _,
      c.with-list.ensures _ _ so_far.1 c.answer.ensures,
      answers_more c.args.session.now c.args.counting c.args.told.now c.loop-wanted.wanted-index c.loop-wanted.id _ c.wanted-item.result so_far.0 _
          (omega (arith, c.loop-wanted-test.true)) c.wanted-item.is c.next_number-id.ensures so_far.2,
    )

pub returns : goal.returns
returns c =
    let so_far = c.loop-wanted.invariant in
    let all = answers_done c.args.session.now c.args.counting c.args.told.now c.loop-wanted.wanted-index c.loop-wanted.id so_far.0 _
    (omega (arith, c.loop-wanted-test.false)) so_far.2 in
    c.breakpoints_body.ensures _ (subst (λ (ds : List SeenItem). HasItems ds c.loop-wanted.list) all so_far.1)
