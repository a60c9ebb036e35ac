-- How a session stands to the start of its machine.
use Rattle.std.specs.Prelude.{ℕ, ◌≡◌, ◌<◌, ◌≤◌, ◌%◌, List, [], ◌∷◌, length, Option}
use Rattle.model.specs.Event.{start}
use Rattle.model.specs.Session.{Session, new_session}
use Rattle.model.specs.State.{Map, State}

-- The most states that a bench holds. Source: mos65.
abbrev pub history : ℕ
history = 65536

-- A session at the start of a machine.
abbrev pub fresh : Map → List (Option ℕ) → Session
fresh map image = new_session history (start map image)

abbrev pub first_of : List State → State → State
first_of [] current = current
first_of (state ∷ states) current = state

-- A session that began in a state, as long as its history is not full, and has no watchpoint.
pub record IsSince (s : State) (now : Session) : Type 0 where
  pub history : now.history ≡ 65536
  pub within : length now.earlier ≤ 65536
  pub first : length now.earlier < 65536 → first_of now.earlier now.current ≡ s
  pub number : length now.earlier < 65536 → now.number ≡ length now.earlier % 1024
  pub replayed : now.replayed ≡ 0
  pub watches : now.watches ≡ []
