use Rattle.std.proofs.Common.{◌≡◌, ◌++◌, drop, map}
use Rattle.mon_settings.specs.StopLines.{break_view, new_break}
use Rattle.mon_settings.proofs.breaks.breaks_at.Given as goal

abbrev pub invariant-loop-address : goal.invariant-loop-address
invariant-loop-address l = map break_view l.stops.items
    ++ map (new_break l.tests.items l.times) (drop l.address-index l.addresses)
    ≡ map (new_break l.tests.items l.times) l.addresses
