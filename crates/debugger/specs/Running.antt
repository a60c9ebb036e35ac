-- A run, some steps at a time.
use Rattle.std.specs.Prelude.{◌≡◌, ℕ, ◌+◌, ◌-◌, ◌%◌, ◌<◌, ◌≤◌, List, length, Option, Some, None, Result, Ok, Err}
use Rattle.model.specs.State.{State}
use Rattle.model.specs.Step.{step}
use Rattle.model.specs.Session.{Session, with_state}
use Rattle.model.specs.Run.{run_end, after_steps, stop_of}
use Rattle.model.specs.declared.event.EventFault.{EventFault}
use Rattle.model.specs.declared.run_end.Why.{Why}
use Rattle.model.specs.declared.run_end.Why.TheVariants.{Refused}
use Rattle.model.specs.declared.run_end.RunEnd.{RunEnd}
use Rattle.debugger.specs.Replay.{held_states}
use Rattle.debugger.specs.declared.stops.Stretch.{Stretch}
use Rattle.debugger.specs.declared.trail.Trail.{Trail}

-- the session of a machine whose events a trail keeps
abbrev pub session_of : Trail → State → List ℕ → List ℕ → ℕ → Session
session_of t now breaks watches replayed = record {
  earlier = held_states t.held t.kept.items t.events.items now;
  current = now;
  history = t.history;
  breaks = breaks;
  watches = watches;
  number = length t.events.items % 1024;
  replayed = replayed;
}

abbrev pub end_at : ℕ → Why → RunEnd
end_at did why = record { did = did; why = why }

-- an end with so many steps before it
abbrev pub beyond : ℕ → RunEnd → RunEnd
beyond k e = end_at (k + e.did) e.why

-- how a run ends that began with so many steps: with the last of them, or so many steps later than
-- the rest of it
abbrev pub end_after : ℕ → Option Why → RunEnd → RunEnd
end_after steps (Some why) rest = end_at steps why
end_after steps None rest = beyond steps rest

-- the first steps of a run lead from one session to another, and tell whether the run ends with the
-- last of them; or the first is refused
abbrev pub RunsTo : Session → Result Stretch EventFault → Session → Type 0
RunsTo s (Ok r) t = (0 < r.steps) × (t ≡ after_steps r.steps s) × ((count : ℕ) → r.steps ≤ count
    → run_end count s ≡ end_after r.steps r.why (run_end (count - r.steps) t))
RunsTo s (Err fault) t = ((count : ℕ) → 0 < count → run_end count s ≡ end_at 0 (Refused fault))
    × (t ≡ s)

-- one step leads from a session to another, and tells whether a run ends with it
abbrev pub StepsTo : Session → Result (Option Why) EventFault → Session → Type 0
StepsTo s (Ok why) t = (state : State) × (step s.current ≡ Ok state)
    × (why ≡ stop_of s s.current state) × (t ≡ with_state s state)
StepsTo s (Err fault) t = (step s.current ≡ Err fault) × (t ≡ s)
