-- A session of the debugger: its history of whole states. Source: mos65.
use Rattle.std.specs.Prelude.{ℕ, ◌+◌, ◌-◌, ◌%◌, List, [], ◌∷◌, ◌++◌, length, drop}
use Rattle.model.specs.State.{State}

-- The states that `back` can restore, oldest first; the current state; how many states may be held;
-- breakpoints and watchpoints in order of setting; the number of the current state, which counts
-- accepted events minus undone ones, modulo 1,024; and the number of the state that was last
-- restored, 0 before the first time.
pub record Session : Type 0 where
  pub earlier : List State
  pub current : State
  pub history : ℕ
  pub breaks : List ℕ
  pub watches : List ℕ
  pub number : ℕ
  pub replayed : ℕ

-- The last n of some states.
abbrev pub keep_last : ℕ → List State → List State
keep_last n states = drop (length states - n) states

-- A session that is in a state and holds no other.
abbrev pub new_session : ℕ → State → Session
new_session history state = record {
  earlier = [];
  current = state;
  history = history;
  breaks = [];
  watches = [];
  number = 0;
  replayed = 0;
}

-- An accepted event makes its state the current one. The state before it is held; if that makes
-- more than `history`, the oldest is dropped.
abbrev pub with_state : Session → State → Session
with_state s state = record s {
  earlier = keep_last s.history (s.earlier ++ s.current ∷ []);
  current = state;
  number = (s.number + 1) % 1024;
}
