-- A run with one step more.
use Rattle.std.proofs.Common.{◌≡◌, ◌∙◌, ℕ, List, [], ◌∷◌, ◌++◌, Ok, ap, append-nil}
use Rattle.model.specs.State.{State}
use Rattle.model.specs.Event.{event_of}
use Rattle.model.specs.Step.{step}
use Rattle.model.specs.declared.event.Event.TheVariants as event
use Rattle.page_data.specs.Changes.{Tells}
use Rattle.page_data.specs.Runs.{AreSteps, IsRecorded}
use Rattle.page_data.specs.Steps.{with_input}
use Rattle.page_data.proofs.Telling.{told_none}

steps_on : (states : List State) (s t : State) → AreSteps states s → step s ≡ Ok t → AreSteps (states ++ s ∷ []) t
steps_on [] s t h made = made
steps_on (r ∷ []) s t h made = (h, made)
steps_on (r ∷ q ∷ states) s t h made = (h.0, steps_on (q ∷ states) s t h.1 made)

pub no_input : (s : State) → with_input [] s ≡ s
no_input s = ap (λ (given : List ℕ). record s { bus = record s.bus { given = given } }) (append-nil s.bus.given)

pub none_recorded : (start : State) → IsRecorded start [] start
none_recorded start = record { earlier = []; steps = tt; told = told_none start }

pub step_of : (s t : State) → event_of s event.Step ≡ Ok t → step s ≡ Ok t
unfolding event_of
step_of s t e = e

pub one_recorded : (start s t : State) (old new : List ℕ) → step s ≡ Ok t → IsRecorded start old s
    → ((earlier : List State) → step (with_input [] s) ≡ Ok t → Tells start old earlier s → Tells start new (earlier ++ s ∷ []) t) → IsRecorded start new t
one_recorded start s t old new made h more = record {
  earlier = h.earlier ++ s ∷ [];
  steps = steps_on h.earlier s t h.steps made;
  told = more h.earlier (ap step (no_input s) ∙ made) h.told;
}
