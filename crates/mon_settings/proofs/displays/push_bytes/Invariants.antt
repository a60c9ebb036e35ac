use Rattle.std.proofs.Common.{◌≡◌, ◌++◌, drop}
use Rattle.std.specs.List.{flat_map}
use Rattle.mon_settings.specs.Displays.{displayed_byte}
use Rattle.mon_settings.proofs.displays.push_bytes.Given as goal

abbrev pub invariant-loop-address : goal.invariant-loop-address
invariant-loop-address l = l.text.items ++ flat_map (displayed_byte l.places.names l.session.current) (drop l.address-index l.displays)
    ≡ l.initial.text.items ++ flat_map (displayed_byte l.places.names l.session.current) l.displays
