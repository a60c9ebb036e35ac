use Rattle.std.proofs.Common.{◌≡◌, ◌∙◌, ℕ, add-one, ap}
use Rattle.mon_session.specs.Course.{course_of}
use Rattle.mon_steps.specs.BackLines.{remade, remade_one}
use Rattle.mon_steps.proofs.Shown.{one_more_shown}
use Rattle.mon_steps.proofs.Course.{if_err, partly}
use Rattle.mon_steps.proofs.again.redo_each_shown.Goals as goal

pub returns-in_err-redo_shown-clause-memory : goal.returns-in_err-redo_shown-clause-memory
returns-in_err-redo_shown-clause-memory c =
    let first = course_of c.args.mon.now in
    let after = course_of c.redo_shown.new.mon in
    if_err ((x : ℕ) × (after ≡ remade x first)) c.from_residual.result
    (partly c.loop.counter first (course_of c.loop.mon) after c.loop.invariant.course c.in_err-redo_shown.ensures.memory)

pub loop-preserved : goal.loop-preserved
loop-preserved c =
    let first = course_of c.args.mon.now in
    record {
      course = rw add-one (c.in_ok-redo_shown.ensures.course ∙ ap remade_one c.loop.invariant.course);
      text = one_more_shown c.loop.counter c.args.mon.now.places c.loop.mon.places first (course_of c.loop.mon) _ _ _
          c.loop.invariant.text c.loop.invariant.course c.loop.invariant.stops.1 c.in_ok-redo_shown.ensures.text;
      stops = (
        c.redo_shown.ensures.stops.0 ∙ c.loop.invariant.stops.0,
        c.redo_shown.ensures.stops.1
            ∙ c.loop.invariant.stops.1,
        c.redo_shown.ensures.stops.2 ∙ c.loop.invariant.stops.2,
      );
    }
