use Rattle.std.proofs.Common.{◌≡◌, arith}
use Rattle.debugger.specs.Running.{session_of}
use Rattle.debugger.proofs.Runs.{break_here}
use Rattle.debugger.proofs.Stretches.{goes_to, runs_before, runs_last, runs_on, runs_refused, runs_then}
use Rattle.debugger.proofs.session.Session.run_on.Goals as goal

pub returns-then-ran-clause-steps : goal.returns-then-ran-clause-steps
returns-then-ran-clause-steps c =
    let before = c.self.inside in
    let ran = c.run_quietly-ran in
    let s = session_of before.trail before.machine before.breaks before.watches before.replayed in
    let t = session_of ran.new.course ran.new.machine before.breaks before.watches before.replayed in
    rw (← c.self.view_is) (runs_last s t ran.result.steps ran.new.machine c.map-stops.result.now c.map.result.now c.break_at-why.result
    c.map-stops.ensures.none c.map.ensures.none
    (ran.ensures.last c.if-ran.true) (break_here before.breaks ran.new.machine ran.new.machine c.pc.result c.break_at-why.result c.pc.ensures
    c.break_at-why.ensures) (ran.ensures.steps before.breaks before.watches before.replayed))

pub returns-then-ran-limit-clause-steps : goal.returns-then-ran-limit-clause-steps
returns-then-ran-limit-clause-steps c =
    let before = c.self.inside in
    let ran = c.run_quietly-ran in
    let s = session_of before.trail before.machine before.breaks before.watches before.replayed in
    let t = session_of ran.new.course ran.new.machine before.breaks before.watches before.replayed in
    let goes = goes_to s t ran.result.steps ran.new.machine c.map-stops.result.now c.map.result.now c.map-stops.ensures.none c.map.ensures.none
    (ran.ensures.on c.if-ran.false) (ran.ensures.steps before.breaks before.watches before.replayed) in
    rw (← c.if-ran-limit.true) (rw (← c.self.view_is) (runs_on s t ran.result.steps (omega (arith, c.requires, c.if-ran-limit.true)) goes))

pub returns-in-Ok-clause-steps : goal.returns-in-Ok-clause-steps
returns-in-Ok-clause-steps c =
    let before = c.self.inside in
    let ran = c.run_quietly-ran in
    let s = session_of before.trail before.machine before.breaks before.watches before.replayed in
    let t = session_of ran.new.course ran.new.machine before.breaks before.watches before.replayed in
    let goes = goes_to s t ran.result.steps ran.new.machine c.map-stops.result.now c.map.result.now c.map-stops.ensures.none c.map.ensures.none
    (ran.ensures.on c.if-ran.false) (ran.ensures.steps before.breaks before.watches before.replayed) in
    rw (← c.self.view_is) (runs_then s t c.slow_step.new.self ran.result.steps c.in-Ok.why goes c.in-Ok.ensures)

pub returns-in-Err-clause-steps : goal.returns-in-Err-clause-steps
returns-in-Err-clause-steps c =
    let before = c.self.inside in
    let ran = c.run_quietly-ran in
    let s = session_of before.trail before.machine before.breaks before.watches before.replayed in
    let t = session_of ran.new.course ran.new.machine before.breaks before.watches before.replayed in
    let goes = goes_to s t ran.result.steps ran.new.machine c.map-stops.result.now c.map.result.now c.map-stops.ensures.none c.map.ensures.none
    (ran.ensures.on c.if-ran.false) (ran.ensures.steps before.breaks before.watches before.replayed) in
    rw (← c.self.view_is) (runs_before s t c.slow_step.new.self ran.result.steps c.in-Err.field-0 c.if-ran-gt0.true goes c.in-Err.ensures)

pub returns-in-Err-2-clause-steps : goal.returns-in-Err-2-clause-steps
returns-in-Err-2-clause-steps c =
    let before = c.self.inside in
    let ran = c.run_quietly-ran in
    let s = session_of before.trail before.machine before.breaks before.watches before.replayed in
    let t = session_of ran.new.course ran.new.machine before.breaks before.watches before.replayed in
    let goes = goes_to s t ran.result.steps ran.new.machine c.map-stops.result.now c.map.result.now c.map-stops.ensures.none c.map.ensures.none
    (ran.ensures.on c.if-ran.false) (ran.ensures.steps before.breaks before.watches before.replayed) in
    let none : ran.result.steps ≡ 0 = omega (arith, c.if-ran-gt0.false) in
    rw (← c.self.view_is) (runs_refused s t c.slow_step.new.self ran.result.steps c.in-Err.field-0 none goes c.in-Err.ensures)
