use Rattle.std.proofs.Common.{[], List, arith, refl, subst}
use Rattle.dap_messages.specs.SeenAnswers.{SeenItem}
use Rattle.dap_views.proofs.Locating.{located_done, located_more}
use Rattle.dap_views.specs.Locations.{location_of}
use Rattle.dap_messages.specs.ItemLists.{HasItems}
use Rattle.dap_views.proofs.locations.locations_of.Goals as goal

pub loop-row-init : goal.loop-row-init
loop-row-init c = ([], c.new-list.ensures, refl)

pub loop-row-preserved : goal.loop-row-preserved
loop-row-preserved c =
    let so_far = c.loop-row.invariant in
    let f = location_of c.args.counting c.args.file c.args.first c.args.last in (
      _,
      c.with_location-list.ensures so_far.0 so_far.1,
      located_more f c.args.rows.now c.loop-row.row-index _ so_far.0 _ (omega (arith, c.loop-row-test.true)) so_far.2,
    )

pub returns : goal.returns
returns c =
    let so_far = c.loop-row.invariant in
    let f = location_of c.args.counting c.args.file c.args.first c.args.last in
    subst (λ (ds : List SeenItem). HasItems ds c.loop-row.list)
    (located_done f c.args.rows.now c.loop-row.row-index so_far.0 _ (omega (arith, c.loop-row-test.false)) so_far.2) so_far.1
