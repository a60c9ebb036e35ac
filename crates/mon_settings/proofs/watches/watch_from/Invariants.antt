use Rattle.std.proofs.Common.{◌≡◌, None}
use Rattle.mon_session.specs.Course.{KeepsStops}
use Rattle.mon_settings.specs.StopLines.{all_watched}
use Rattle.mon_settings.proofs.watches.watch_from.Given as goal

abbrev pub invariant-loop-offset : goal.invariant-loop-offset
invariant-loop-offset l = record {
  watched : all_watched l.first l.offset l.initial.mon.session ≡ (l.mon.session, None);
  text : l.mon.text ≡ l.initial.mon.text;
  events : l.mon.events ≡ l.initial.mon.events;
  stops : KeepsStops l.initial.mon l.mon;
}
