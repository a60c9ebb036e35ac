use Rattle.std.proofs.Common.{subst, sym}
use Rattle.debugger.specs.Replay.{IsHistory}
use Rattle.debugger.proofs.Stamps.{tells_on}
use Rattle.debugger.proofs.session.Session.event.Goals as goal

pub invariant_of-self : goal.invariant_of-self
invariant_of-self c =
    let noted = c.note_event.ensures.noted c.self.inside.machine c.self.invariant.1 c.in-Ok.ensures.ok in
    (c.note_event.ensures.room, noted.history, c.self.invariant.2, c.note_event.ensures.pages)

pub returns-in-Ok-clause-ok : goal.returns-in-Ok-clause-ok
returns-in-Ok-clause-ok c =
    let noted = c.note_event.ensures.noted c.self.inside.machine c.self.invariant.1 c.in-Ok.ensures.ok in
    rw (← c.self.view_is) (
      c.happen.new.machine,
      c.in-Ok.ensures.ok.accepted,
      λ i. record {
        earlier = noted.states i;
        current = c.happen.new.machine;
        history = c.note_event.ensures.size i;
        breaks =
            c.self.inside.breaks;
        watches = c.self.inside.watches;
        number = c.note_event.ensures.number i;
        replayed = c.self.inside.replayed;
      },
    )

pub note_event-requires : goal.note_event-requires
note_event-requires c = tells_on _ _ _ _ _ _ _ _ c.happen.ensures.same c.self.invariant.3

pub invariant_of-self-in-Err : goal.invariant_of-self-in-Err
invariant_of-self-in-Err c =
    let same = c.in-Err.ensures.err.1 in
    let inside = c.self.inside in (
      c.self.invariant.0,
      subst (IsHistory 1024 inside.trail.kept.items inside.trail.events.items) (sym same) c.self.invariant.1,
      c.self.invariant.2,
      tells_on _ _ _ _ _ _ _ _ c.happen.ensures.same c.self.invariant.3,
    )
