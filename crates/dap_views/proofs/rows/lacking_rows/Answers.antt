use Rattle.std.proofs.Common.{◌≡◌, ◌+◌, ◌-◌, [], List, ap, arith, refl, subst}
use Rattle.dap_messages.specs.SeenAnswers.{SeenItem}
use Rattle.dap_views.proofs.Following.{lacking_done, lacking_more}
use Rattle.dap_views.specs.Rows.{lacking_rows}
use Rattle.dap_messages.specs.ItemLists.{HasItems}
use Rattle.dap_views.proofs.rows.lacking_rows.Goals as goal

pub loop-init : goal.loop-init
loop-init c =
    let all : c.args.count - 0 ≡ c.args.count = omega arith in
    ([], c.new-list.ensures, ap (λ n. lacking_rows n c.args.lacking) all)

pub loop-preserved : goal.loop-preserved
loop-preserved c =
    let so_far = c.loop.invariant in (
      _,
      c.with-list.ensures _ _ so_far.1 (c.no_instruction.ensures _ c.format.ensures.ok),
      lacking_more (c.args.count - c.loop.counter) (c.args.count - (c.loop.counter + 1)) c.loop.before _ so_far.0 _ _
          (omega (arith, c.loop-test.true)) c.saturating_sub-before.ensures refl so_far.2,
    )

pub returns : goal.returns
returns c =
    let so_far = c.loop.invariant in
    let all = lacking_done (c.args.count - c.loop.counter) c.loop.before so_far.0 _ (omega (arith, c.loop-test.false)) so_far.2 in
    subst (λ (found : List SeenItem). HasItems found c.loop.list) all so_far.1
