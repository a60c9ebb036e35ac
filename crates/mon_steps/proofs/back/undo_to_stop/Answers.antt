use Rattle.std.proofs.Common.{◌≡◌, length, sym, ◌∙◌, arith}
use Rattle.mon_session.specs.Course.{course_of}
use Rattle.mon_steps.proofs.Course.{none_by_watches}
use Rattle.mon_steps.proofs.back.undo_to_stop.Goals as goal

pub returns-then-held-eq0-clause-course : goal.returns-then-held-eq0-clause-course
returns-then-held-eq0-clause-course c =
    let before = course_of c.args.mon.now in
    let none : length before.0.earlier ≡ 0 = omega (arith, c.held.ensures.held, c.if-held-eq0.true) in
    (λ i. (c.say-then-held-eq0.ensures.shows.0 i, c.say-then-held-eq0.ensures.shows.1 i)) ∙ sym (none_by_watches c.args.mon.now.stops before none)
