use Rattle.std.proofs.Common.{◌≡◌, ◌∙◌, ◌<◌, ap, arith, subst, sym}
use Rattle.model.specs.State.{State}
use Rattle.cpu.proofs.PlainRuns.{ran_nowhere, ran_one}
use Rattle.debugger.specs.Replay.{IsHistory}
use Rattle.debugger.specs.Running.{session_of}
use Rattle.debugger.proofs.PlainRuns.{after_none, after_one}
use Rattle.debugger.proofs.Stamps.{tells_on}
use Rattle.debugger.proofs.Steps.{quick_follows}
use Rattle.debugger.proofs.session.Session.step_plainly.Goals as goal

pub note_step-requires : goal.note_step-requires
note_step-requires c = tells_on _ _ _ _ _ _ _ _ c.run_plainly-ran.ensures.same c.self.invariant.3

pub invariant_of-self-2 : goal.invariant_of-self-2
invariant_of-self-2 c =
    let ran = c.run_plainly-ran in
    let some : 0 < ran.result.steps = omega (arith, c.if-ran-eq0.false) in
    let is = ran_one _ _ _ _ _ ran.ensures.ran some ran.ensures.within in
    let noted = c.note_step.ensures.noted c.self.inside.machine c.self.invariant.1 (quick_follows _ _ is.made is.rest) in
    (c.note_step.ensures.room, noted.history, c.self.invariant.2, c.note_step.ensures.pages)

pub returns-clause-session : goal.returns-clause-session
returns-clause-session c =
    let before = c.self.inside in
    let ran = c.run_plainly-ran in
    let some : 0 < ran.result.steps = omega (arith, c.if-ran-eq0.false) in
    let is = ran_one _ _ _ _ _ ran.ensures.ran some ran.ensures.within in
    let noted = c.note_step.ensures.noted before.machine c.self.invariant.1 (quick_follows _ _ is.made is.rest) in
    rw (← c.self.view_is) (
    (λ i. record {
      earlier = noted.states i;
      current = ran.new.self;
      history = c.note_step.ensures.size i;
      breaks = before.breaks;
      watches =
          before.watches;
      number = c.note_step.ensures.number i;
      replayed = before.replayed;
    })
    ∙ after_one ran.result.steps _ ran.new.self is.made some ran.ensures.within)

pub invariant_of-self : goal.invariant_of-self
invariant_of-self c =
    let inside = c.self.inside in
    let ran = c.run_plainly-ran in
    let same = ran_nowhere _ _ _ _ _ ran.ensures.ran c.if-ran-eq0.true in
    let told = tells_on _ _ _ _ _ _ _ _ ran.ensures.same c.self.invariant.3 in
    (c.self.invariant.0, subst (IsHistory 1024 inside.trail.kept.items inside.trail.events.items) (sym same) c.self.invariant.1, c.self.invariant.2, told)

pub returns-clause-ran : goal.returns-clause-ran
returns-clause-ran c = rw (← c.self.view_is) c.run_plainly-ran.ensures.ran

pub returns-then-ran-eq0-clause-ran : goal.returns-then-ran-eq0-clause-ran
returns-then-ran-eq0-clause-ran c = rw (← c.self.view_is) c.run_plainly-ran.ensures.ran

pub returns-then-ran-eq0-clause-session : goal.returns-then-ran-eq0-clause-session
returns-then-ran-eq0-clause-session c =
    let before = c.self.inside in
    let ran = c.run_plainly-ran in
    let same = ran_nowhere _ _ _ _ _ ran.ensures.ran c.if-ran-eq0.true in
    rw (← c.self.view_is) (ap (λ (x : State). session_of before.trail x before.breaks before.watches before.replayed) same
    ∙ after_none ran.result.steps _ c.if-ran-eq0.true)
