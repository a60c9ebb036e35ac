use Rattle.std.proofs.Common.{◌≡◌, ◌≤◌, ◌++◌, length}
use Rattle.std.specs.List.{flat_map}
use Rattle.mon_session.specs.Course.{ShowsOnly}
use Rattle.mon_dispatch.specs.LookTexts.{found_below, found_line}
use Rattle.mon_dispatch.proofs.finding.find.Given as goal

abbrev pub invariant-loop-address : goal.invariant-loop-address
invariant-loop-address l = record {
  shows : ShowsOnly l.initial.mon l.mon;
  count : l.count ≡ length (found_below l.initial.mon.session.current.bus.memory l.bytes l.address);
  few : l.count ≤ 16;
  text : l.mon.text.items ≡ l.initial.mon.text.items
      ++ flat_map (found_line l.initial.mon.places.names)
      (found_below l.initial.mon.session.current.bus.memory l.bytes l.address);
}
