use Rattle.std.proofs.Common.{◌<◌, arith}
use Rattle.debugger.proofs.Quiet.{noted_then}
use Rattle.debugger.proofs.course.note_step.Goals as goal

pub returns-clause-noted : goal.returns-clause-noted
returns-clause-noted c = λ before history follows.
    let inside = c.course.inside in
    let some : 0 < inside.quiet = omega (arith, c.if-course-eq0.false) in
    rw (← c.course.view_is) (noted_then inside.trail inside.steps inside.quiet before c.args.machine.now c.course.invariant.0 c.course.invariant.1
    some (rw (← c.course.view_is) at history) follows)
