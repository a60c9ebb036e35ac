use Rattle.std.proofs.Common.{◌≡◌, ◌++◌, drop}
use Rattle.std.specs.List.{flat_map}
use Rattle.mon_texts.specs.Stops.{further_test}
use Rattle.mon_texts.proofs.stops.push_others.Given as goal

abbrev pub invariant-loop-test : goal.invariant-loop-test
invariant-loop-test l = l.text.items ++ flat_map (further_test l.places.names) (drop l.test-index l.tests) ≡ l.initial.text.items
    ++ flat_map (further_test l.places.names) l.tests
