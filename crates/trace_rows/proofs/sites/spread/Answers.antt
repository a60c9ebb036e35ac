use Rattle.trace_rows.proofs.Places.{spread_all, spread_more, spread_none}
use Rattle.trace_rows.proofs.sites.spread.Goals as goal

pub loop-place-init : goal.loop-place-init
loop-place-init c = spread_none c.args.assembly.now.image c.args.table.now.items c.requires

pub loop-place-preserved : goal.loop-place-preserved
loop-place-preserved c = spread_more c.args.assembly.now.image c.args.table.now.items c.loop-place.table.items c.put_if_none-name.new.table.items
    c.loop-place.place c.loop-place.name c.from_below-below.result c.put_if_none-name.result c.loop-place-test.true
    c.from_below-below.ensures c.put_if_none-name.ensures.put c.put_if_none-name.ensures.there c.loop-place.invariant

pub returns : goal.returns
returns c = spread_all c.args.assembly.now.image c.args.table.now.items c.loop-place.table.items c.loop-place.place c.loop-place.name
    c.loop-place-test.false c.loop-place.invariant
