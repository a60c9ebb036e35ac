-- What a run reads, and how it ends.
use Rattle.std.specs.Prelude.{◌≡◌, ◌⊎◌, ◌-◌, ◌<◌, ⊤, ℕ, List, ◌++◌, Option, Some, None}
use Rattle.model.specs.Session.{Session}
use Rattle.console.specs.Playing.{Outcome, Play, later, played}
use Rattle.console.specs.Turns.{CutTurn}
use Rattle.console.specs.declared.ending.Played.{Played}

-- A reader's bytes are these, if they are known.
abbrev pub AreBytesOf : Option (List ℕ) → List ℕ → Type 0
AreBytesOf None bytes = ⊤
AreBytesOf (Some known) bytes = known ≡ bytes

-- A run ended as an outcome says: after as many steps, for the same reason, in the same session, and
-- with the same input left.
pub record RanAs (outcome : Outcome) (end : Played) (now : Session) (rest : List ℕ) : Type 0 where
  pub steps : end.steps ≡ outcome.steps
  pub ending : end.ending ≡ outcome.ending
  pub session : now ≡ outcome.play.session
  pub left : rest ≡ outcome.play.input

-- A run was cut short: so many of its steps were made, and then a turn that was cut short.
pub record CutRun (until : Option ℕ) (limit : ℕ) (first : Play) (now : Session) (rest : List ℕ)
    : Type 0 where
  pub steps : ℕ
  pub before : Play
  pub told : List ℕ
  pub within : steps < limit
  pub made : played until limit first ≡ later steps (played until (limit - steps) before)
  pub input : before.input ≡ told ++ rest
  pub turn : CutTurn before told rest now

-- A run came to an end in a session, with some input left.
pub record CameTo (outcome : Outcome) (now : Session) (rest : List ℕ) : Type 0 where
  pub session : now ≡ outcome.play.session
  pub left : rest ≡ outcome.play.input

-- What a run with an error has done: it was cut short, or its last output could not be flushed.
abbrev pub BrokeOff : Option ℕ → ℕ → Play → Session → List ℕ → Type 0
BrokeOff until limit first now rest
    = CutRun until limit first now rest ⊎ CameTo (played until limit first) now rest
