-- Counts of steps that add up.
use Rattle.std.proofs.Common.{◌≡◌, ℕ, ◌+◌, suc, refl, sym, ap, ◌∙◌}
use Rattle.model.specs.Step.{step}
use Rattle.model.specs.Session.{Session}
use Rattle.model.specs.Run.{after_steps}
use Rattle.law_sessions.proofs.Runs.{after_steps-add}
use Rattle.model.specs.Back.{without_last}
use Rattle.mon_runs.specs.Runs.{gone_back}

pub steps_more : (a b : ℕ) (s t u : Session) → t ≡ after_steps a s → u ≡ after_steps b t
    → u ≡ after_steps (a + b) s
steps_more a b s t u made h = h ∙ ap (after_steps b) made ∙ sym (after_steps-add a b s (step s.current) refl)

-- ---- back, event by event

pub gone-none : (s : Session) → s ≡ gone_back 0 s
unfolding gone_back
gone-none s = refl

pub gone-more : (k : ℕ) (s t u : Session) → t ≡ gone_back k s → u ≡ without_last 1 t
    → u ≡ gone_back (suc k) s
unfolding gone_back
gone-more k s t u gone back = back ∙ ap (without_last 1) gone
