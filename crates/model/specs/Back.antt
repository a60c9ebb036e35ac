-- Going back. Source: mos65.
use Rattle.std.specs.Prelude.{◌≡◌, ℕ, ◌+◌, ◌-◌, ◌%◌, ◌==◌, ◌<◌, ◌≤◌, nat_le, if◌then◌else◌, List, [], ◌∷◌, ◌++◌, length, take, get_or, Result, Ok, Err}
use Rattle.model.specs.State.{State}
use Rattle.model.specs.Event.{event_of}
use Rattle.model.specs.Session.{Session, with_state, keep_last}
use Rattle.model.specs.declared.event.Event.{Event}
use Rattle.model.specs.declared.session_fault.SessionFault.{SessionFault}
use Rattle.model.specs.declared.session_fault.SessionFault.TheVariants.{NoHistory}

-- All states of a session, the oldest first and the current one last.
abbrev pub states : Session → List State
states s = s.earlier ++ s.current ∷ []

-- The number of the state k events before another.
abbrev pub number_back : ℕ → ℕ → ℕ
number_back k number = (number + (1024 - k % 1024)) % 1024

-- The session without its last k states. Undoing none leaves the number of the last restored state.
unfoldable pub without_last : ℕ → Session → Session
without_last k s = record s {
  earlier = take (length s.earlier - k) s.earlier;
  current = get_or (states s) (length s.earlier - k) s.current;
  number = number_back k s.number;
  replayed = if k == 0 then s.replayed else number_back k s.number;
}

-- The last k events undone; rejected, with the number of events held, if fewer than k are held.
unfoldable pub back_of : ℕ → Session → Result Session SessionFault
back_of k s = if nat_le k (length s.earlier) then Ok (without_last k s)
    else Err (NoHistory (length s.earlier))

-- Accepted events lead from one session to another.
abbrev pub Accepts : Session → List Event → Session → Type 0
Accepts s [] t = t ≡ s
Accepts s (e ∷ es) t = (state : State) × (event_of s.current e ≡ Ok state)
    × Accepts (with_state s state) es t

-- A session that holds no more than its last n earlier states.
abbrev pub with_last_earlier : ℕ → Session → Session
with_last_earlier n s = record s { earlier = keep_last n s.earlier }

-- After k accepted events, undoing k restores the states before them exactly if k is at most the
-- history size: the current one, and of the earlier ones those for which there is room beside the
-- k. Otherwise it is rejected, and the history is full.
abbrev pub BackIsExact : Type 0
BackIsExact = (s t : Session) (events : List Event) → length s.earlier ≤ s.history
    → Accepts s events t →
    (length events ≤ s.history → (u : Session) × (back_of (length events) t ≡ Ok u)
    × (states u ≡ states (with_last_earlier (s.history - length events) s)))
    × (s.history < length events → back_of (length events) t ≡ Err (NoHistory s.history))
