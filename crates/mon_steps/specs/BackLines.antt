-- What lines do that go back. Source: mos65.
use Rattle.std.specs.Prelude.{ℕ, ◌≡◌, ◌⊎◌, zero, suc, min, nat_lt, unwrap_or, if◌then◌else◌, List, [], ◌∷◌, length, slice_get, Option, Some, None, Result, Ok, Err}
use Rattle.model.specs.Session.{Session}
use Rattle.model.specs.Back.{back_of}
use Rattle.model.specs.declared.event.Event.{Event}
use Rattle.model.specs.declared.session_fault.SessionFault.{SessionFault}
use Rattle.mon_runs.specs.Recall.{last_stop, made_again}
use Rattle.mon_lines.specs.declared.command.Undoing.{Undoing}
use Rattle.mon_lines.specs.declared.command.Undoing.TheVariants.{Events, Over}
use Rattle.mon_runs.specs.Back.{back_over}
use Rattle.mon_session.specs.Events.{with_redone, with_undone}
use Rattle.mon_session.specs.Course.{Course}
use Rattle.mon_runs.specs.declared.stops.Stops.{Stops}

-- ---- going back

-- So many events are undone, if so many are held.
abbrev pub if_held : ℕ → Course → Result Session SessionFault → Course
if_held count course (Ok session) = (session, with_undone count course.1)
if_held count course (Err fault) = course

abbrev pub undone : ℕ → Course → Course
undone count course = if_held count course (back_of count course.0)

-- The next event that was undone is made again, if there is one.
abbrev pub if_next : Course → Option Event → Session
if_next course None = course.0
if_next course (Some event) = (made_again (event ∷ []) course.0).1

abbrev pub remade_one : Course → Course
remade_one course = (if_next course (slice_get course.1.undone 0), with_redone course.1)

-- How many events are made again: as many as were undone, or a number that is given if it is
-- smaller.
abbrev pub most_remade : Option ℕ → List Event → ℕ
most_remade count events = min (unwrap_or count 4294967295) (length events)

-- So many of the events that were undone are made again.
abbrev pub remade : ℕ → Course → Course
remade zero course = course
remade (suc n) course = remade_one (remade n course)

-- ---- the lines

-- So many of the events that are held are undone. None are if more are asked for.
abbrev pub undone_if_any : ℕ → Course → Course
undone_if_any count course = if nat_lt 0 (length course.0.earlier) then undone count course
    else course

-- The last event is undone, or a whole subroutine if that event was its RTS.
abbrev pub undone_over : Course → Course
undone_over course = let way = back_over course.0 in (way.1, with_undone way.0 course.1)

-- What is undone.
abbrev pub undone_by : Undoing → Course → Course
undone_by (Events count) course = undone_if_any count course
undone_by Over course = undone_over course

-- All events back to the last stop are undone, or back to the oldest state held. A stop is a break
-- or a change at a watched address or of a watched register.
abbrev pub undone_to_stop : Stops → Course → Course
undone_to_stop stops course = let found = last_stop stops course.0 in
    (found.1, with_undone found.0 course.1)

-- No more than 256 addresses are looked at on the way back.
abbrev pub undone_by_watches : Stops → Course → Course
undone_by_watches stops course = if nat_lt 256 (length stops.changes.items) then course
    else undone_to_stop stops course

-- The last events are undone, and made again.
abbrev pub again : ℕ → Course → Course
again zero course = course
again (suc n) course = remade (suc n) (undone (suc n) course)

-- The last events are shown: so many, or all that are held if they are fewer.
abbrev pub history_shown : ℕ → Course → Course
history_shown count course = again (min count (length course.0.earlier)) course

-- So many events are undone, and some of them made again, or nothing has happened yet.
abbrev pub IsPartlyShown : ℕ → Course → Course → Type 0
IsPartlyShown count before after = (after ≡ before)
    ⊎ ((n : ℕ) × (after ≡ remade n (undone (min count (length before.0.earlier)) before)))
