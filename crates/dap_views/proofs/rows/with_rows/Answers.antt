use Rattle.std.proofs.Common.{◌≡◌, ◌∙◌, ◌+◌, ◌-◌, ◌++◌, List, ap, arith, subst}
use Rattle.dap_messages.specs.SeenAnswers.{SeenItem}
use Rattle.dap_views.proofs.Following.{row_here, rows_done, rows_more}
use Rattle.dap_views.specs.Rows.{rows}
use Rattle.dap_messages.specs.ItemLists.{HasItems}
use Rattle.dap_views.proofs.rows.with_rows.Goals as goal

pub loop-init : goal.loop-init
loop-init c = λ ds has.
    let all : c.args.count - 0 ≡ c.args.count = omega arith in
    (ds, has, ap (λ n. ds ++ rows c.args.mon.now c.args.source.now.files.now c.args.source.now.counting c.args.until n c.args.from) all)

pub loop-preserved : goal.loop-preserved
loop-preserved c = λ ds has.
    let mon = c.args.mon.now in
    let files = c.args.source.now.files.now in
    let counting = c.args.source.now.counting in
    let at = c.loop.address in
    let next = c.behind_row-address.ensures ∙ c.in_ok-len.ensures in
    let so_far = c.loop.invariant ds has in (
      _,
      c.with-list.ensures _ _ so_far.1 c.row_of.ensures,
      rows_more mon files counting c.args.until (c.args.count - c.loop.counter) (c.args.count - (c.loop.counter + 1)) at _ so_far.0 _ _
          (omega (arith, c.loop-test.true)) next (row_here mon files counting c.args.until at _ c.in_ok-len.ensures) so_far.2,
    )

pub returns : goal.returns
returns c = λ ds has.
    let so_far = c.loop.invariant ds has in
    let all = rows_done c.args.mon.now c.args.source.now.files.now c.args.source.now.counting c.args.until (c.args.count - c.loop.counter)
    c.loop.address so_far.0 _ (omega (arith, c.loop-test.false)) so_far.2 in
    subst (λ (found : List SeenItem). HasItems found c.loop.list) all so_far.1
