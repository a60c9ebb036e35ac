use Rattle.std.proofs.Common.{◌≡◌}
use Rattle.mon_session.specs.Course.{KeepsStops}
use Rattle.mon_settings.specs.StopLines.{all_unwatched}
use Rattle.mon_settings.proofs.watches.unwatch_from.Given as goal

abbrev pub invariant-loop-offset : goal.invariant-loop-offset
invariant-loop-offset l = record {
  session : l.mon.session
      ≡ all_unwatched l.initial.mon.stops.watches.items l.first l.offset l.initial.mon.session;
  text : l.mon.text ≡ l.initial.mon.text;
  events : l.mon.events ≡ l.initial.mon.events;
  stops : KeepsStops l.initial.mon l.mon;
}
