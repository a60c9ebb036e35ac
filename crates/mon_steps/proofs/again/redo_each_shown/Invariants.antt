use Rattle.std.proofs.Common.{◌≡◌, ◌++◌}
use Rattle.mon_session.specs.Course.{KeepsStops, course_of}
use Rattle.mon_steps.specs.BackLines.{remade}
use Rattle.mon_steps.specs.BackTexts.{remade_text}
use Rattle.mon_steps.proofs.again.redo_each_shown.Given as goal

abbrev pub invariant-loop : goal.invariant-loop
invariant-loop l = record {
  course : course_of l.mon ≡ remade l.counter (course_of l.initial.mon);
  text : l.mon.text.items ≡ l.initial.mon.text.items
      ++ remade_text l.counter l.initial.mon.places (course_of l.initial.mon);
  stops : KeepsStops l.initial.mon l.mon;
}
