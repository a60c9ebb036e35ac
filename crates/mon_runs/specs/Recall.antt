-- Back to the last stop, and events made again. Source: mos65.
use Rattle.std.specs.Prelude.{◌≡◌, ℕ, ◌-◌, ◌≤◌, zero, suc, Bool, not, ◌==◌, ◌||◌, nat_eq, if◌then◌else◌, List, [], ◌∷◌, length, slice_index, is_some, Result, Ok, Err}
use Rattle.std.specs.List.{list_any}
use Rattle.model.specs.State.{State}
use Rattle.model.specs.Event.{event_of}
use Rattle.model.specs.Session.{Session, with_state}
use Rattle.model.specs.Back.{Accepts, back_of, states, without_last}
use Rattle.model.specs.declared.event.Event.{Event}
use Rattle.model.specs.declared.event.EventFault.{EventFault}
use Rattle.mon_runs.specs.Stops.{register_change}
use Rattle.mon_runs.specs.declared.stops.Stops.{Stops}
use Rattle.mon_runs.specs.declared.watches.Watch.{Watch}

-- ---- back to the last stop

-- One state has another byte than another at one of some addresses.
abbrev pub differs_at : List ℕ → State → State → Bool
differs_at watched before after = list_any
    (λ a. not (slice_index before.bus.memory a == slice_index after.bus.memory a)) watched

-- One state has another value of a watched register than another.
abbrev pub has_other_register : List Watch → State → State → Bool
has_other_register watches before after
    = is_some (register_change watches before.regs after.regs)

-- A state at a breakpoint, or whose next event changes a watched byte or a watched register.
abbrev pub is_stop : List ℕ → Stops → State → State → Bool
is_stop breaks stops before after = list_any (nat_eq before.regs.pc) breaks
    || differs_at stops.changes.items before after
    || has_other_register stops.watches.items before after

-- Back by one event at a time, to the first such state, or over n events if none is among them.
-- The number of events undone comes with the session.
abbrev pub one_more : ℕ × Session → ℕ × Session
one_more undone = (suc undone.0, undone.1)

unfoldable pub recalled : Stops → ℕ → Session → ℕ × Session
recalled stops zero s = (0, s)
recalled stops (suc n) s =
    let t = without_last 1 s in
    if is_stop s.breaks stops t.current s.current then (1, t) else one_more (recalled stops n t)

-- Back to the last stop, or to the oldest state held.
abbrev pub last_stop : Stops → Session → ℕ × Session
last_stop stops s = recalled stops (length s.earlier) s

-- ---- events made again

-- The session after some events, up to the first that is rejected, and how many were made.
abbrev pub if_made : Session → Result State EventFault → (Session → ℕ × Session) → ℕ × Session
if_made s (Ok state) rest = one_more (rest (with_state s state))
if_made s (Err fault) rest = (0, s)

unfoldable pub made_again : List Event → Session → ℕ × Session
made_again [] s = (0, s)
made_again (e ∷ es) s = if_made s (event_of s.current e) (λ t. made_again es t)

-- The events that were undone, made again, lead to the states that were there: to the same current
-- state, and to the same earlier ones.
abbrev pub RedoIsExact : Type 0
RedoIsExact = (s t u : Session) (events : List Event) → length s.earlier ≤ s.history
    → length events ≤ s.history → Accepts s events t → back_of (length events) t ≡ Ok u
    → ((made_again events u).0 ≡ length events) × (states (made_again events u).1 ≡ states t)
