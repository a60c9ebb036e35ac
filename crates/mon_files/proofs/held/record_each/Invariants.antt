use Rattle.std.proofs.Common.{◌≡◌, ◌≤◌, ◌+◌, length}
use Rattle.model.specs.State.{State}
use Rattle.mon_session.specs.Course.{KeepsStops, course_of}
use Rattle.mon_steps.specs.BackLines.{remade}
use Rattle.page_data.specs.Changes.{Tells}
use Rattle.mon_files.proofs.held.record_each.Given as goal

abbrev pub invariant-loop : goal.invariant-loop
invariant-loop l = record {
  course : course_of l.mon ≡ remade l.counter (course_of l.initial.mon);
  few : length l.mon.session.earlier ≤ length l.initial.mon.session.earlier + l.counter;
  history : l.mon.session.history ≡ l.initial.mon.session.history;
  told : (start : State) → length l.initial.mon.session.earlier ≡ 0
      → l.count ≤ l.initial.mon.session.history → start ≡ l.initial.mon.session.current
      → Tells start l.records.items l.mon.session.earlier l.mon.session.current;
  stops : KeepsStops l.initial.mon l.mon;
  text : l.mon.text ≡ l.initial.mon.text;
}
