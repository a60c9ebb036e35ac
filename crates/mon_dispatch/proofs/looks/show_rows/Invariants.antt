use Rattle.std.proofs.Common.{◌≡◌, ◌++◌, ◌-◌}
use Rattle.mon_session.specs.Course.{ShowsOnly}
use Rattle.mon_dispatch.specs.LookTexts.{rows_text}
use Rattle.mon_dispatch.proofs.looks.show_rows.Given as goal

abbrev pub invariant-loop : goal.invariant-loop
invariant-loop l = record {
  shows : ShowsOnly l.initial.mon l.mon;
  text : l.initial.mon.text.items
      ++ rows_text l.count l.initial.mon.session.current l.initial.mon.places l.address
      ≡ l.mon.text.items ++ rows_text (l.count - l.counter) l.initial.mon.session.current
      l.initial.mon.places l.at;
}
