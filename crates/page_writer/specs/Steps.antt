-- The steps of a run, one after another. Source: mos65.
use Rattle.std.specs.Prelude.{ℕ, zero, suc, if◌then◌else◌, List, [], ◌∷◌, Option, Some, None}
use Rattle.console.specs.Playing.{Play, Turn, is_at, line_for, turn_of}
use Rattle.console.specs.declared.ending.Ending.{Ending}
use Rattle.model.specs.State.{State}

-- A step: the state before it, the input that is handed in then, and the state after it.
pub record Made : Type 0 where
  pub before : State
  pub given : List ℕ
  pub after : State

-- The step of a turn.
abbrev pub made_in : Play → Turn → Made
made_in p turn = record {
  before = p.session.current;
  given = line_for p.memo p.session.current p.input;
  after = turn.play.session.current;
}

-- The step of a turn, if it makes one, and those of the rest of the run.
abbrev pub steps_after : Option ℕ → Play → Turn → (Play → List Made) → List Made
steps_after until p turn rest = by turn.ending
  where
    by : Option Ending → List Made
    by (Some why) = []
    by None = made_in p turn
        ∷ (if is_at until turn.play.session.current then [] else rest turn.play)

-- The steps of a run: at most so many, up to one that leads to an address, if one is given.
unfoldable pub steps_of : Option ℕ → ℕ → Play → List Made
steps_of until zero p = []
steps_of until (suc n) p = steps_after until p (turn_of p) (λ q. steps_of until n q)

-- The state after the last of some steps from a state on.
abbrev pub last_of : State → List Made → State
last_of s [] = s
last_of s (m ∷ steps) = last_of m.after steps
