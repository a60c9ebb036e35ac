use Rattle.std.proofs.Common.{◌≡◌}
use Rattle.mon_session.specs.Course.{KeepsStops, course_of}
use Rattle.mon_steps.specs.BackLines.{remade}
use Rattle.mon_steps.proofs.again.redo_some.Given as goal

abbrev pub invariant-loop : goal.invariant-loop
invariant-loop l = record {
  course : course_of l.mon ≡ remade l.counter (course_of l.initial.mon);
  text : l.mon.text ≡ l.initial.mon.text;
  stops : KeepsStops l.initial.mon l.mon;
}
