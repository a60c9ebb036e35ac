use Rattle.std.proofs.Common.{◌≤◌, arith}
use Rattle.debugger.proofs.Stamps.{tells_on}
use Rattle.debugger.proofs.Stretches.{longer, steps_made}
use Rattle.debugger.proofs.course.run_quietly.Goals as goal

pub returns-clause-history : goal.returns-clause-history
returns-clause-history c =
    let inside = c.course.inside in
    let ran = c.quick_run-ran in
    let within : ran.result.steps ≤ inside.quiet = omega (arith, c.min-most.ensures, ran.ensures.within) in
    let all = steps_made c.args.stops.now c.args.watches.now ran.result.stopped ran.result.steps c.args.machine.now ran.new.self ran.ensures.on
    ran.ensures.last in
    (longer inside.trail c.args.watches.now inside.steps inside.quiet ran.result.steps c.args.machine.now ran.new.self c.course.invariant.0
    c.course.invariant.1 (rw (← c.course.view_is) at c.requires.history) within all).history

pub returns-clause-steps : goal.returns-clause-steps
returns-clause-steps c = λ breaks watched replayed.
    let inside = c.course.inside in
    let ran = c.quick_run-ran in
    let within : ran.result.steps ≤ inside.quiet = omega (arith, c.min-most.ensures, ran.ensures.within) in
    let all = steps_made c.args.stops.now c.args.watches.now ran.result.stopped ran.result.steps c.args.machine.now ran.new.self ran.ensures.on
    ran.ensures.last in
    let told = longer inside.trail c.args.watches.now inside.steps inside.quiet ran.result.steps c.args.machine.now ran.new.self c.course.invariant.0
    c.course.invariant.1 (rw (← c.course.view_is) at c.requires.history) within all in
    rw (← c.course.view_is) (told.states breaks watched replayed)

pub returns-clause-pages : goal.returns-clause-pages
returns-clause-pages c = tells_on _ _ _ _ _ _ _ _ c.quick_run-ran.ensures.same (rw (← c.course.view_is) at c.requires.pages)
