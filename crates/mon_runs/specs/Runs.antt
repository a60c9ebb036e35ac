-- What a run and a way back make of a session. Source: mos65.
use Rattle.std.specs.Prelude.{ℕ, ◌≡◌, zero, suc}
use Rattle.model.specs.Session.{Session}
use Rattle.model.specs.Run.{after_steps}
use Rattle.model.specs.Back.{states, without_last}

-- So many steps lead to the same states, whatever breakpoints are set.
abbrev pub HasMadeStates : ℕ → Session → Session → Type 0
HasMadeStates did s t = states t ≡ states (after_steps did s)

-- The session with so many events undone, one by one.
unfoldable pub gone_back : ℕ → Session → Session
gone_back zero s = s
gone_back (suc k) s = without_last 1 (gone_back k s)
