-- A turn of a run, and the record of its step. Source: mos65.
use Rattle.std.specs.Prelude.{◌≡◌, ◌<◌, ◌^◌, ℕ, List, ◌++◌, length, Option, Some, None, Ok}
use Rattle.console.specs.Turns.{EndsOnce, EndsWith, TurnsTo, known}
use Rattle.console.specs.declared.ending.Ending.{Ending}
use Rattle.console.specs.declared.turn.Player.{Player}
use Rattle.model.specs.Session.{Session}
use Rattle.model.specs.State.{IsState, State}
use Rattle.model.specs.Step.{step}
use Rattle.page_data.specs.Format.{bytes_of}
use Rattle.page_data.specs.Steps.{change_of, with_input}

-- A step was made from a state, to which some input was handed in, and its record stands behind
-- what was there.
pub record IsMade (given : List ℕ) (s t : State) (old new : List ℕ) : Type 0 where
  pub sound : IsState s
  pub few : length given < 2 ^ 64
  pub made : step (with_input given s) ≡ Ok t
  pub pushed : new ≡ old ++ bytes_of (change_of given s t)

-- A turn that ends the run makes no step, and nothing is appended.
abbrev pub Records : Option Ending → List ℕ → State → State → List ℕ → List ℕ → Type 0
Records (Some why) given s t old new = new ≡ old
Records None given s t old new = IsMade given s t old new

-- A turn over a known input: what it read of it, where it led, and what was appended.
pub record RecordsTurn (ending : Option Ending) (s : Session) (before : Player)
    (input left : List ℕ) (t : Session) (after : Player) (old new : List ℕ) : Type 0 where
  pub told : List ℕ
  pub consumes : input ≡ told ++ left
  pub over : EndsWith before.is_over after.is_over (Some input) (Some left)
  pub once : EndsOnce before.is_over after.is_over told
  pub turn : TurnsTo s (known before) told after.is_over ending t (known after)
  pub records : Records ending told s.current t.current old new
