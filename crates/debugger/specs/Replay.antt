-- The states that a checkpoint and the events after it stand for.
use Rattle.std.specs.Prelude.{◌≡◌, ℕ, ◌≤◌, List, [], ◌∷◌, length, take, drop, Result, Ok, Err}
use Rattle.model.specs.State.{State}
use Rattle.model.specs.Event.{event_of}
use Rattle.model.specs.Session.{keep_last}
use Rattle.model.specs.declared.event.Event.{Event}
use Rattle.model.specs.declared.event.EventFault.{EventFault}
use Rattle.model.specs.Checkpoint.{Checkpoint, state_at, CanPutBack}

abbrev pub accepted_or : State → Result State EventFault → State
accepted_or s (Ok t) = t
accepted_or s (Err fault) = s

-- the state after an event
unfoldable pub next : State → Event → State
next s e = accepted_or s (event_of s e)

-- the state after some events
abbrev pub state_after : State → List Event → State
state_after s [] = s
state_after s (e ∷ es) = state_after (next s e) es

-- the states before each of some events
abbrev pub before_each : State → List Event → List State
before_each s [] = []
before_each s (e ∷ es) = s ∷ before_each (next s e) es

-- an event leaves the map, and only lengthens both lists of the console
pub record Grows (s t : State) : Type 0 where
  pub map : t.bus.map ≡ s.bus.map
  pub given : take (length s.bus.given) t.bus.given ≡ s.bus.given
  pub given_len : length s.bus.given ≤ length t.bus.given
  pub out : take (length s.bus.out) t.bus.out ≡ s.bus.out
  pub out_len : length s.bus.out ≤ length t.bus.out

-- an event was accepted
pub record Follows (s : State) (e : Event) (t : State) : Type 0 where
  pub accepted : event_of s e ≡ Ok t
  pub grows : Grows s t

-- all of some events were accepted
abbrev pub AllFollow : State → List Event → Type 0
AllFollow s [] = Unit {0}
AllFollow s (e ∷ es) = Follows s e (next s e) × AllFollow (next s e) es

-- a checkpoint leads back from one state to another
pub record LeadsBack (c : Checkpoint) (now then : State) : Type 0 where
  pub fits : CanPutBack c.bus now.bus
  pub back : state_at c now ≡ then

-- each checkpoint leads from the current state back to the one before its part of p events
abbrev pub AllLeadBack : ℕ → List Checkpoint → State → List Event → State → Type 0
AllLeadBack p [] base events now = Unit {0}
AllLeadBack p (c ∷ cs) base events now = LeadsBack c now base
    × AllLeadBack p cs (state_after base (take p events)) (drop p events) now

-- the state before all of the events that are kept
abbrev pub base_of : List Checkpoint → State → State
base_of [] now = now
base_of (c ∷ cs) now = state_at c now

-- Some checkpoints and events are the history of a state: the events were accepted one after
-- another and lead to it, and each checkpoint leads back to the state before its part of p events.
pub record IsHistory (p : ℕ) (kept : List Checkpoint) (events : List Event) (now : State) : Type 0
  where
    pub follow : AllFollow (base_of kept now) events
    pub whole : state_after (base_of kept now) events ≡ now
    pub marks : AllLeadBack p kept (base_of kept now) events now

-- the earlier states that are held
abbrev pub held_states : ℕ → List Checkpoint → List Event → State → List State
held_states held kept events now = keep_last held (before_each (base_of kept now) events)
