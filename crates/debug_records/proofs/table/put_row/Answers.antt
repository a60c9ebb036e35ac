use Rattle.std.proofs.Common.{arith}
use Rattle.debug_records.proofs.Extents.{all_taken, none_taken, taken_more}
use Rattle.debug_records.proofs.table.put_row.Goals as goal

pub loop-address-init : goal.loop-address-init
loop-address-init c = record {
  low = omega arith;
  high = omega arith;
  taken = none_taken _ _ _ _ c.requires;
}

pub loop-address-preserved : goal.loop-address-preserved
loop-address-preserved c = record {
  low = omega (arith, c.loop-address.invariant.low);
  high = omega (arith, c.loop-address-test.true);
  taken = taken_more _ _ _ _ _ _ _ c.loop-address.invariant.low (omega (arith, c.loop-address-test.true)) c.take_row.ensures c.loop-address.invariant.taken;
}

pub returns : goal.returns
returns c = all_taken c.args.wanted c.args.row c.min-first.result c.capped-past.result c.loop-address.address c.args.table.now.items c.loop-address.table.items
    (omega (arith, c.capped-past.ensures, c.behind.ensures)) (omega (arith, c.min-first.ensures, c.capped.ensures))
    (omega (arith, c.loop-address-test.false, c.loop-address.invariant.high)) c.loop-address.invariant.taken
