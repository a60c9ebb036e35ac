use Rattle.std.proofs.Common.{◌≡◌, ◌++◌, ◌-◌}
use Rattle.mon_steps.specs.RunTexts.{stepped_text}
use Rattle.mon_steps.specs.RunLines.{HasRun}
use Rattle.mon_session.specs.Course.{course_of}
use Rattle.mon_steps.specs.RunLines.{KeepsWatches, stand_of, stepped, watches_of}
use Rattle.mon_steps.proofs.stepping.show_steps.Given as goal

abbrev pub invariant-loop : goal.invariant-loop
invariant-loop l = record {
  course : HasRun (course_of l.initial.mon) (course_of l.mon);
  left : stepped l.count (watches_of l.initial.mon) (stand_of l.initial.mon)
      ≡ stepped (l.count - l.counter) (watches_of l.initial.mon) (stand_of l.mon);
  text : l.initial.mon.text.items
      ++ stepped_text l.count (watches_of l.initial.mon) l.initial.mon.places (stand_of l.initial.mon)
      ≡ l.mon.text.items
      ++ stepped_text (l.count - l.counter) (watches_of l.initial.mon) l.initial.mon.places (stand_of l.mon);
  watches : KeepsWatches l.initial.mon l.mon;
}
