-- The records of a run of steps. Source: mos65.
use Rattle.std.specs.Prelude.{◌≡◌, ℕ, List, [], ◌∷◌, Ok}
use Rattle.model.specs.State.{State}
use Rattle.model.specs.Step.{step}
use Rattle.page_data.specs.Changes.{Tells}

-- Each of some states, and then another, is what a step makes of the one before.
abbrev pub AreSteps : List State → State → Type 0
AreSteps [] t = Unit {0}
AreSteps (s ∷ []) t = step s ≡ Ok t
AreSteps (s ∷ r ∷ states) t = (step s ≡ Ok r) × AreSteps (r ∷ states) t

-- Some bytes tell of the states that steps lead through, from a start up to the current state.
pub record IsRecorded (start : State) (bytes : List ℕ) (now : State) : Type 0 where
  pub earlier : List State
  pub steps : AreSteps earlier now
  pub told : Tells start bytes earlier now
