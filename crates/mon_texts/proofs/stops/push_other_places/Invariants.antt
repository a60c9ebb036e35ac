use Rattle.std.proofs.Common.{◌≡◌, ◌++◌, drop}
use Rattle.std.specs.List.{flat_map}
use Rattle.mon_texts.specs.Stops.{further_place}
use Rattle.mon_texts.proofs.stops.push_other_places.Given as goal

abbrev pub invariant-loop-address : goal.invariant-loop-address
invariant-loop-address l = l.text.items ++ flat_map (further_place l.places.names) (drop l.address-index l.addresses)
    ≡ l.initial.text.items ++ flat_map (further_place l.places.names) l.addresses
