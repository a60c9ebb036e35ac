use Rattle.std.proofs.Common.{arith}
use Rattle.dap_views.specs.Watches.{told_of}
use Rattle.dap_messages.proofs.Lists.{all_items, next_item}
use Rattle.dap_views.proofs.watches.all_told.Goals as goal

pub loop-wanted-init : goal.loop-wanted-init
loop-wanted-init c = c.new-list.ensures

pub loop-wanted-preserved : goal.loop-wanted-preserved
loop-wanted-preserved c =
    let f = told_of c.args.stops.now.watches.items in
    next_item f c.args.listed.now c.loop-wanted.wanted-index _ _ (omega (arith, c.loop-wanted-test.true))
    (c.with-list.ensures _ _ c.loop-wanted.invariant c.told.ensures)

pub returns : goal.returns
returns c =
    let f = told_of c.args.stops.now.watches.items in
    c.breakpoints_body.ensures _ (all_items f c.args.listed.now c.loop-wanted.wanted-index c.loop-wanted.list (omega (arith, c.loop-wanted-test.false))
    c.loop-wanted.invariant)
