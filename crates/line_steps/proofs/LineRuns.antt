-- A run that ends where a line begins, after some of its steps.
use Rattle.std.proofs.Common.{◌≡◌, ℕ, ◌+◌, ◌<◌, Bool, true, false, List, Option, refl, sym, ap, subst, ◌∙◌, inl, inr}
use Rattle.std.specs.Prelude.{◌&&◌, ◌||◌, not, is_some}
use Rattle.std.proofs.lemmas.Bool.{cases_Bool}
use Rattle.model.specs.Session.{Session}
use Rattle.model.specs.Run.{after_steps, run_end}
use Rattle.model.specs.declared.run_end.RunEnd.{RunEnd}
use Rattle.model.specs.declared.run_end.Why.{Why}
use Rattle.model.specs.declared.run_end.Why.TheVariants.{Limit}
use Rattle.debugger.specs.Running.{end_at}
use Rattle.line_steps.specs.Calls.{call_begun, call_open, state_on}
use Rattle.line_steps.specs.Forwards.{is_limit, is_line_on, steps_to_line}
use Rattle.line_steps.specs.Lines.{begun, is_other}
use Rattle.line_steps.specs.declared.lines.FileLine.{FileLine}
use Rattle.line_steps.specs.declared.lines.LineStart.{LineStart}
use Rattle.line_steps.proofs.Calling.{IsCall, call_is, call_more}
use Rattle.line_steps.proofs.Counted.{NoneTo, first_beyond, first_last, first_next}
use Rattle.line_steps.proofs.Steps.{IsOn, made_next, ends_all, ends_met, ends_refused, ends_stopped}

-- the call that the run is within, one step more
pub call_on : (s u v : Session) (k : ℕ) (call before after : Option ℕ) → IsCall s k call → u ≡ after_steps k s
    → v ≡ after_steps (k + 1) s → before ≡ call_begun call u.current → after ≡ call_open before v.current → IsCall s (k + 1) after
call_on s u v k call before after is made made_more begins opens =
    let first : before ≡ call_begun call (state_on s k) = begins ∙ ap (λ (x : Session). call_begun call x.current) made in
    let second : after ≡ call_open (call_begun call (state_on s k)) (state_on s (k + 1))
    = opens ∙ (λ i. call_open (first i) (made_more i).current) in
    subst (IsCall s (k + 1)) (sym second) (call_more s k call is)

-- whether it is at such a line
pub line_is : (lines : List LineStart) (from : Option FileLine) (s t : Session) (k : ℕ) (call : Option ℕ)
    → t ≡ after_steps k s → IsCall s k call
    → (is_other from (begun lines t.current) && not (is_some call)) ≡ is_line_on lines from s k
line_is lines from s t k call made is =
    let within = call_is s k call is in
    λ i. is_other from (begun lines (made i).current) && not (within i)

-- the call that so many steps lead into, and whether the last of them ends the run
pub record IsThere (lines : List LineStart) (from : Option FileLine) (s : Session) (k : ℕ) (within : Option ℕ) (why : Why) (end : Bool) : Type 0 where
  pub call : IsCall s k within
  pub is_end : end ≡ (is_line_on lines from s k || not (is_limit why))

-- one step more
pub there_on : {lines : List LineStart} {from : Option FileLine} {s u v : Session} {k : ℕ} {before after : Option ℕ} {e : RunEnd} {end : Bool}
    → (call : Option ℕ) → IsOn s u k → IsCall s k call → e ≡ run_end 1 u → v ≡ after_steps e.did u → 0 < e.did → before ≡ call_begun call u.current
    → after ≡ call_open before v.current
    → end ≡ (is_other from (begun lines v.current) && not (is_some after) || not (is_limit e.why)) → IsThere lines from s (k + 1) after e.why end
there_on {lines} {from} {s} {u} {v} {k} {before} {after} {e} {end} call on was is after_step some begins opens h =
    let made = made_next s u v k e on is after_step some in
    let within = call_on s u v k call before after was on.made made begins opens in
    record { call = within; is_end = h ∙ ap (λ b. b || not (is_limit e.why)) (line_is lines from s v (k + 1) after made within) }

ended_by : (line limit : Bool) → (line || not limit) ≡ true → line ≡ false → limit ≡ false
ended_by line false h none = refl
ended_by true true h none = cc
ended_by false true h none = cc

pub no_line : (line limit : Bool) → (line || not limit) ≡ false → line ≡ false
no_line false limit h = refl
no_line true limit h = cc

pub no_end : (line limit : Bool) → (line || not limit) ≡ false → limit ≡ true
no_end line true h = refl
no_end true false h = cc
no_end false false h = cc

module _ (lines : List LineStart) (from : Option FileLine) (s u : Session) (done limit : ℕ) (e : RunEnd) where
  pub ends_here : IsOn s u done → e ≡ run_end 1 u → done < limit → 0 < e.did
      → NoneTo (λ (k : ℕ). is_line_on lines from s k) done
      → (is_line_on lines from s (done + 1) || not (is_limit e.why)) ≡ true
      → end_at (done + 1) e.why ≡ run_end (steps_to_line lines from limit s) s
  ends_here on is within some none h = elim (cases_Bool (is_line_on lines from s (done + 1))) [
    | inl line ↦ ends_met s u done e on is some
        ∙ ap (λ (n : ℕ). run_end n s) (first_next limit (is_line_on lines from s) done none line within)
    | inr line ↦ ends_stopped s u done (steps_to_line lines from limit s) e on is
        (first_beyond limit (is_line_on lines from s) done none within) some
        (ended_by (is_line_on lines from s (done + 1)) (is_limit e.why) h line)
  ]

  pub ends_before : IsOn s u done → e ≡ run_end 1 u → done < limit → e.did ≡ 0
      → NoneTo (λ (k : ℕ). is_line_on lines from s k) done
      → end_at done e.why ≡ run_end (steps_to_line lines from limit s) s
  ends_before on is within zero none =
      ends_refused s u done (steps_to_line lines from limit s) e on is
      (first_beyond limit (is_line_on lines from s) done none within) zero

pub ends_last : (lines : List LineStart) (from : Option FileLine) (s u : Session) (done limit : ℕ) → IsOn s u done
    → NoneTo (λ (k : ℕ). is_line_on lines from s k) done → done ≡ limit
    → end_at limit Limit ≡ run_end (steps_to_line lines from limit s) s
ends_last lines from s u done limit on none all =
    ends_all s u done limit on all
    ∙ ap (λ (n : ℕ). run_end n s) (first_last limit (is_line_on lines from s) (subst (NoneTo (λ (k : ℕ). is_line_on lines from s k)) all none))
