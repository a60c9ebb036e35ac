-- What a session of `mon` has, and what an event does to it. Source: mos65.
use Rattle.std.specs.Prelude.{◌≡◌, ◌⊎◌, Result, Ok, Err}
use Rattle.model.specs.State.{State}
use Rattle.model.specs.Event.{event_of}
use Rattle.model.specs.Session.{Session, with_state}
use Rattle.model.specs.declared.event.Event.{Event}
use Rattle.model.specs.declared.event.EventFault.{EventFault}
use Rattle.mon_session.specs.Events.{Kept, with_event}
use Rattle.mon_session.specs.declared.mon_state.MonState.{MonState}

-- A session, with the events that were made and those that were undone.
abbrev pub Course : Type 0
Course = Session × Kept

abbrev pub course_of : MonState → Course
course_of mon = (mon.session, mon.events)

-- Only the text has changed.
abbrev pub ShowsOnly : MonState → MonState → Type 0
ShowsOnly old new = (new.session ≡ old.session) × (new.events ≡ old.events)
    × (new.stops ≡ old.stops) × (new.places ≡ old.places) × (new.displays ≡ old.displays)

-- Breaks, watches, names, lines, and what is shown at each stop are what they were.
abbrev pub KeepsStops : MonState → MonState → Type 0
KeepsStops old new = (new.stops ≡ old.stops) × (new.places ≡ old.places)
    × (new.displays ≡ old.displays)

-- One of two values.
abbrev pub IsEither : {X : Type 0} → X → X → X → Type 0
IsEither x a b = (x ≡ a) ⊎ (x ≡ b)

-- An event that is accepted is the next of the session, and what was undone is forgotten. One that
-- is rejected changes nothing.
abbrev pub if_accepted : Event → Course → Result State EventFault → Course
if_accepted event course (Ok state) = (with_state course.0 state, with_event event course.1)
if_accepted event course (Err fault) = course

abbrev pub happened : Event → Course → Course
happened event course = if_accepted event course (event_of course.0.current event)
