-- Any calls of a session, one after another, and what can be undone after them. Source: mos65.
use Rattle.std.specs.Prelude.{◌≡◌, ℕ, ◌+◌, ◌-◌, ◌<◌, ◌≤◌, zero, suc, min, nat_le, if◌then◌else◌, List, [], ◌∷◌, ◌++◌, length, take, get_or, Result, Ok, Err}
use Rattle.model.specs.State.{State}
use Rattle.model.specs.Event.{event_of}
use Rattle.model.specs.Step.{step}
use Rattle.model.specs.Session.{Session, with_state, keep_last}
use Rattle.model.specs.Run.{after_run, run_end}
use Rattle.model.specs.Back.{back_of}
use Rattle.model.specs.Breakpoints.{break_set, break_cleared, watch_set, watch_cleared}
use Rattle.model.specs.Transcript.{after_event, serving}
use Rattle.model.specs.declared.event.Event.{Event}
use Rattle.model.specs.declared.event.EventFault.{EventFault}
use Rattle.model.specs.declared.session_fault.SessionFault.{SessionFault}
use Rattle.model.specs.declared.session_fault.SessionFault.TheVariants.{NoHistory}

-- A call of a session: an event; a run of at most so many steps; the undoing of so many events; a
-- breakpoint or a watchpoint set or cleared at an address; or a view.
pub data Call : Type 0 where
  happen : Event → Call
  run : ℕ → Call
  back : ℕ → Call
  set_break : ℕ → Call
  clear_break : ℕ → Call
  set_watch : ℕ → Call
  clear_watch : ℕ → Call
  view : Call

-- ---- the session after calls

-- The session after a call that may be rejected: unchanged if it is.
abbrev pub after_answer : Session → Result Session SessionFault → Session
after_answer s (Ok t) = t
after_answer s (Err fault) = s

-- The session after a call. A view changes nothing.
unfoldable pub after_call : Session → Call → Session
after_call s (happen event) = after_event s (event_of s.current event)
after_call s (run n) = after_run n s
after_call s (back k) = after_answer s (back_of k s)
after_call s (set_break address) = after_answer s (break_set address s)
after_call s (clear_break address) = after_answer s (break_cleared address s)
after_call s (set_watch address) = after_answer s (watch_set address s)
after_call s (clear_watch address) = after_answer s (watch_cleared address s)
after_call s view = s

abbrev pub after_calls : Session → List Call → Session
after_calls s [] = s
after_calls s (call ∷ calls) = after_calls (after_call s call) calls

-- ---- the states before

-- The states before the accepted events that were not undone, the oldest first; none of them is
-- forgotten here. And how many of them, the last ones, the history holds.
pub record Past : Type 0 where
  pub states : List State
  pub held : ℕ

-- At first these are the states that the session holds.
abbrev pub past_of : Session → Past
past_of s = record { states = s.earlier; held = length s.earlier }

-- An accepted event adds one state, and the history holds one more, up to its size.
abbrev pub past_with_current : Session → Past → Past
past_with_current s past
    = record { states = past.states ++ s.current ∷ []; held = min s.history (past.held + 1) }

abbrev pub past_after_event : Session → Result State EventFault → Past → Past
past_after_event s (Ok state) past = past_with_current s past
past_after_event s (Err fault) past = past

-- So does each step of a run, up to one that is rejected.
abbrev pub past_if_made : Result State EventFault → Past → (State → Past) → Past
past_if_made (Ok state) past rest = rest state
past_if_made (Err fault) past rest = past

unfoldable pub past_after_steps : ℕ → Session → Past → Past
past_after_steps zero s past = past
past_after_steps (suc k) s past = past_if_made (step s.current) past
    (λ state. past_after_steps k (with_state s state) (past_with_current s past))

-- Undoing k events removes the last k states, if the history holds them.
unfoldable pub past_after_back : ℕ → Past → Past
past_after_back k past = if nat_le k past.held
    then record { states = take (length past.states - k) past.states; held = past.held - k }
    else past

-- Other calls change nothing here.
unfoldable pub past_after_call : Session → Call → Past → Past
past_after_call s (happen event) past = past_after_event s (event_of s.current event) past
past_after_call s (run n) past = past_after_steps (run_end n s).did s past
past_after_call s (back k) past = past_after_back k past
past_after_call s call past = past

abbrev pub past_after_calls : Session → List Call → Past → Past
past_after_calls s [] past = past
past_after_calls s (call ∷ calls) past
    = past_after_calls (after_call s call) calls (past_after_call s call past)

-- ---- the law

-- A session after k events were undone is what it was before the last k accepted events that were
-- not undone. It holds those states before that one which the history held; breakpoints,
-- watchpoints and the history's size are unchanged.
pub record IsBefore (k : ℕ) (s : Session) (past : Past) (t : Session) : Type 0 where
  pub current : t.current
      ≡ get_or (past.states ++ s.current ∷ []) (length past.states - k) s.current
  pub earlier : t.earlier ≡ keep_last (past.held - k) (take (length past.states - k) past.states)
  pub history : t.history ≡ s.history
  pub breaks : t.breaks ≡ s.breaks
  pub watches : t.watches ≡ s.watches

-- k events are undone if the history holds as many; otherwise the call is rejected with how many it
-- holds.
abbrev pub GoesBack : ℕ → Session → Past → Type 0
GoesBack k s past =
    (k ≤ past.held → (t : Session) × (back_of k s ≡ Ok t) × IsBefore k s past t)
    × (past.held < k → back_of k s ≡ Err (NoHistory past.held))

-- Going back is exact, whatever calls came before: events accepted or rejected, runs, breakpoints,
-- watchpoints, views, and going back itself.
abbrev pub BackIsExactAmongCalls : Type 0
BackIsExactAmongCalls = (s : Session) (calls : List Call) (k : ℕ) → length s.earlier ≤ s.history
    → GoesBack k (after_calls s calls) (past_after_calls s calls (past_of s))

-- Command lines are such calls: what some lines do to a session, some calls do to it. So the law
-- holds after any lines too.
abbrev pub LinesAreCalls : Type 0
LinesAreCalls = (s : Session) (lines : List (List ℕ))
    → (calls : List Call) × ((serving s lines).session ≡ after_calls s calls)
