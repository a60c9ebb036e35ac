-- Steps whatever breakpoints are set.
use Rattle.std.proofs.Common.{◌≡◌, ℕ, zero, suc, List, Result, Ok, Err, refl, sym, ap, ◌∙◌}
use Rattle.model.specs.State.{State}
use Rattle.model.specs.Step.{step}
use Rattle.model.specs.Session.{Session, with_state}
use Rattle.model.specs.Back.{states}
use Rattle.model.specs.Breakpoints.{break_set, break_cleared, table_with, table_without, with_breaks}
use Rattle.model.specs.Run.{after_steps}
use Rattle.model.specs.declared.event.EventFault.{EventFault}
use Rattle.model.specs.declared.session_fault.SessionFault.{SessionFault}
use Rattle.law_sessions.proofs.Runs.{after_steps-zero, after_steps-made, after_steps-refused}
use Rattle.mon_runs.specs.Runs.{HasMadeStates}

-- The session with other breakpoints.
abbrev pub other : List ℕ → Session → Session
other breaks s = record s { breaks = breaks }

pub apart : (k : ℕ) (b : List ℕ) (s : Session) (r : Result State EventFault) → step s.current ≡ r
    → after_steps k (other b s) ≡ other b (after_steps k s)
apart zero b s r h = after_steps-zero step (other b s) ∙ ap (other b) (sym (after_steps-zero step s))
apart (suc k) b s (Ok t) h = after_steps-made step k (other b s) t h ∙ apart k b (with_state s t) (step t) refl
    ∙ ap (other b) (sym (after_steps-made step k s t h))
apart (suc k) b s (Err f) h = after_steps-refused step k (other b s) f h ∙ ap (other b) (sym (after_steps-refused step k s f h))

-- a breakpoint that is set or cleared leaves the states
by_table : (s t : Session) (r : Result (List ℕ) SessionFault) → with_breaks s r ≡ Ok t
    → (b : List ℕ) × (t ≡ other b s)
by_table s t (Ok b) h = let same : Ok (other b s) ≡ Ok t = h in (b, cc)
by_table s t (Err f) h = let same : Err f ≡ Ok t = h in cc

pub set-other : (address : ℕ) (s t : Session) → break_set address s ≡ Ok t
    → (b : List ℕ) × (t ≡ other b s)
unfolding break_set
set-other address s t h = by_table s t (table_with s.breaks address) h

pub cleared-other : (address : ℕ) (s t : Session) → break_cleared address s ≡ Ok t
    → (b : List ℕ) × (t ≡ other b s)
unfolding break_cleared
cleared-other address s t h = by_table s t (table_without s.breaks address) h

-- a run with another breakpoint
pub made-apart : (did : ℕ) (s t u v : Session) (b : List ℕ) → t ≡ other b s
    → u ≡ after_steps did t → states v ≡ states u → HasMadeStates did s v
made-apart did s t u v b set made cleared =
    cleared ∙ ap states (made ∙ ap (after_steps did) set ∙ apart did b s (step s.current) refl)
