use Rattle.std.proofs.Common.{◌≡◌, ◌∙◌, refl, subst, sym}
use Rattle.model.specs.Step.{step}
use Rattle.model.specs.State.{State}
use Rattle.model.specs.Event.{event_of}
use Rattle.model.specs.declared.event.Event.TheVariants.{Step}
use Rattle.debugger.proofs.Replays.{follows_of}
use Rattle.debugger.proofs.Runs.{stop_is, undoes_by}
use Rattle.debugger.specs.Replay.{IsHistory}
use Rattle.debugger.proofs.Stamps.{stamped, tells_on}
use Rattle.debugger.proofs.session.Session.slow_step.Goals as goal

step_is : (s : State) → event_of s Step ≡ step s
unfolding event_of
step_is s = refl

pub invariant_of-self : goal.invariant_of-self
invariant_of-self c =
    let follows = follows_of _ c.self.inside.machine c.step_noting-made.new.self Step (step_is c.self.inside.machine ∙ c.in-Ok.ensures.ok)
    (undoes_by c.step_noting-made.new.change c.self.inside.machine c.step_noting-made.new.self c.step_noting-made.ensures.fits
    c.step_noting-made.ensures.undo) in
    let noted = c.note_step.ensures.noted c.self.inside.machine c.self.invariant.1 follows in
    (c.note_step.ensures.room, noted.history, c.self.invariant.2, c.note_step.ensures.pages)

pub returns-in-Ok : goal.returns-in-Ok
returns-in-Ok c =
    let before = c.self.inside in
    let after = c.step_noting-made.new.self in
    let follows = follows_of _ before.machine after Step (step_is before.machine ∙ c.in-Ok.ensures.ok)
    (undoes_by c.step_noting-made.new.change before.machine after c.step_noting-made.ensures.fits c.step_noting-made.ensures.undo) in
    let noted = c.note_step.ensures.noted before.machine c.self.invariant.1 follows in
    rw (← c.self.view_is) (
      after,
      c.in-Ok.ensures.ok,
      c.stop_after-why.ensures ∙ stop_is _ c.step_noting-made.new.change after c.step_noting-made.ensures.undo,
      λ i. record {
        earlier = noted.states i;
        current = after;
        history = c.note_step.ensures.size i;
        breaks = before.breaks;
        watches =
            before.watches;
        number = c.note_step.ensures.number i;
        replayed = before.replayed;
      },
    )

pub note_step-requires : goal.note_step-requires
note_step-requires c = tells_on _ _ _ _ _ _ _ _ (stamped _ _ _ _ _ _ c.step_noting-made.ensures.undo c.stamp.ensures) c.self.invariant.3

pub invariant_of-self-in-Err : goal.invariant_of-self-in-Err
invariant_of-self-in-Err c =
    let inside = c.self.inside in
    let told = tells_on _ _ _ _ _ _ _ _ (stamped _ _ _ _ _ _ c.step_noting-made.ensures.undo c.stamp.ensures) c.self.invariant.3 in (
      c.self.invariant.0,
      subst (IsHistory 1024 inside.trail.kept.items inside.trail.events.items) (sym c.in-Err.ensures.err.1) c.self.invariant.1,
      c.self.invariant.2,
      told,
    )
