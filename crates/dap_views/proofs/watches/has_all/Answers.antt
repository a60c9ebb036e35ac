use Rattle.std.proofs.Common.{◌+◌, ◌-◌, Bool, ap, arith}
use Rattle.std.specs.Prelude.{◌&&◌}
use Rattle.dap_views.proofs.Watching.{all_more, all_over}
use Rattle.dap_views.specs.Watches.{has_all}
use Rattle.dap_views.proofs.watches.has_all.Goals as goal

pub loop-address-init : goal.loop-address-init
loop-address-init c = ap (λ (b : Bool). b && has_all c.args.kind c.args.stops.now.watches.items (c.args.range.last - c.args.range.first) c.args.range.first)
    c.has_access-all.ensures

pub loop-address-preserved : goal.loop-address-preserved
loop-address-preserved c =
    all_more c.args.kind c.args.stops.now.watches.items (c.args.range.last - c.loop-address.address) (c.args.range.last - (c.loop-address.address + 1))
    c.loop-address.address c.loop-address.all _ _ (omega (arith, c.loop-address-test.true)) c.and_access-all.ensures c.loop-address.invariant

pub returns : goal.returns
returns c =
    all_over c.args.kind c.args.stops.now.watches.items (c.args.range.last - c.loop-address.address) c.loop-address.address c.loop-address.all _
    (omega (arith, c.loop-address-test.false)) c.loop-address.invariant
