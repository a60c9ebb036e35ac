use Rattle.std.proofs.Common.{◌≡◌, ◌-◌}
use Rattle.std.specs.Prelude.{◌&&◌}
use Rattle.dap_views.specs.Watches.{all_watched, has_all}
use Rattle.dap_views.proofs.watches.has_all.Given as goal

abbrev pub invariant-loop-address : goal.invariant-loop-address
invariant-loop-address l = (l.all && has_all l.kind l.stops.watches.items (l.fn.range.last - l.address) l.address)
    ≡ all_watched l.stops.watches.items l.fn.range l.kind
