use Rattle.std.proofs.Common.{◌≡◌, ◌++◌, map, take}
use Rattle.dap_views.specs.Found.{stop_view, stops_at}
use Rattle.dap_views.proofs.wanted.push_stops.Given as goal

abbrev pub invariant-loop-address : goal.invariant-loop-address
invariant-loop-address l = record {
  stops : map stop_view l.stops.items ≡ map stop_view l.fn.stops.items
      ++ stops_at l.mon.places l.mon.session.current.regs.pc l.condition (take l.address-index l.addresses);
  set : l.set.items ≡ map (λ s. s.0) (stops_at l.mon.places l.mon.session.current.regs.pc l.condition (take l.address-index l.addresses));
}
