-- Steps that are made one by one.
use Rattle.std.proofs.Common.{◌≡◌, ◌∙◌, ℕ, zero, suc, ◌+◌, Option, Some, None, Result, Ok, Err, List, ◌++◌, refl, sym, ap, arith, append_assoc, append-nil}
use Rattle.model.specs.State.{State}
use Rattle.model.specs.Session.{Session}
use Rattle.model.specs.Step.{step}
use Rattle.model.specs.Run.{OneStep, after_steps, after_steps_by, break_met, first_met, first_refused, met_now_or_later, run_end, run_end_by, sooner, watch_met}
use Rattle.source_map.specs.Lines.{PlacesView}
use Rattle.t65_failures.specs.Steps.{step_text, steps_text}
use Rattle.model.specs.declared.event.EventFault.{EventFault}
use Rattle.model.specs.declared.run_end.Why.{Why}
use Rattle.model.specs.declared.run_end.Why.TheVariants.{Limit}

did_one : (w b : Option Why)
    → (sooner (met_now_or_later w None) (sooner (met_now_or_later b None) (record { did = 1; why = Limit }))).did ≡ 1
did_one None None = refl
did_one None (Some b) = refl
did_one (Some w) None = refl
did_one (Some w) (Some b) = refl

did_by : (one : OneStep) (s : Session) (r : Result State EventFault) → one s.current ≡ r
    → after_steps_by one (run_end_by one 1 s).did s ≡ after_steps_by one 1 s
unfolding run_end_by first_met first_refused after_steps_by
did_by one s (Ok t) e =
    let made : (run_end_by one 1 s).did ≡ 1 = rw e (did_one (watch_met s.watches s.current t) (break_met s.breaks s.current t)) in
    ap (λ d. after_steps_by one d s) made
did_by one s (Err fault) e = rw e refl

-- A run of one step leads where one step does.
pub after-one : (s : Session) (d : ℕ) → d ≡ (run_end 1 s).did → after_steps d s ≡ after_steps 1 s
after-one s d e = ap (λ k. after_steps k s) e ∙ did_by step s (step s.current) refl

after_none : (k : ℕ) (s : Session) (fault : EventFault) → step s.current ≡ Err fault → after_steps k s ≡ s
unfolding after_steps_by
after_none zero s fault e = refl
after_none (suc k) s fault e = rw e refl

after_by : (k : ℕ) (s : Session) (r : Result State EventFault) → step s.current ≡ r
    → after_steps k (after_steps 1 s) ≡ after_steps (suc k) s
unfolding after_steps_by
after_by k s (Ok t) e = rw e refl
after_by k s (Err fault) e = rw e (after_none k s fault e)

-- Steps after one step are one step more.
pub after-more : (k n : ℕ) (s : Session) → n ≡ k + 1 → after_steps k (after_steps 1 s) ≡ after_steps n s
after-more k n s e =
    let next : suc k ≡ n = omega (arith, e) in
    after_by k s (step s.current) refl ∙ ap (λ j. after_steps j s) next

-- What is left to do after one step more.
pub one_step_more : (s next whole : Session) (n m : ℕ) → n ≡ m + 1 → next ≡ after_steps 1 s
    → after_steps n s ≡ whole → after_steps m next ≡ whole
one_step_more s next whole n m e made left =
    ap (after_steps m) made ∙ (after-more m n s e ∙ left)

pub no_step_left : (s whole : Session) (n : ℕ) → n ≡ 0 → after_steps n s ≡ whole → s ≡ whole
unfolding after_steps_by
no_step_left s whole n e left = ap (λ k. after_steps k s) (sym e) ∙ left

steps_text-suc : (places : PlacesView) (n m : ℕ) (s : Session) → n ≡ m + 1
    → steps_text places n s ≡ step_text places s.current (after_steps 1 s).current ++ steps_text places m (after_steps 1 s)
unfolding steps_text
steps_text-suc places n m s e =
    let next : n ≡ suc m = omega (arith, e) in
    ap (λ k. steps_text places k s) next

pub one_text_more : (places : PlacesView) (s next : Session) (n m : ℕ) (before after whole : List ℕ) → n ≡ m + 1
    → next ≡ after_steps 1 s → after ≡ before ++ step_text places s.current next.current
    → before ++ steps_text places n s ≡ whole → after ++ steps_text places m next ≡ whole
one_text_more places s next n m before after whole e made grown left =
    let same : step_text places s.current next.current ++ steps_text places m next ≡ steps_text places n s =
    ap (λ (t : Session). step_text places s.current t.current ++ steps_text places m t) made ∙ sym (steps_text-suc places n m s e) in
    ap (λ t. t ++ steps_text places m next) grown
    ∙ (append_assoc before (step_text places s.current next.current) (steps_text places m next)
    ∙ (ap (λ t. before ++ t) same ∙ left))

pub no_text_left : (places : PlacesView) (s : Session) (n : ℕ) (before whole : List ℕ) → n ≡ 0
    → before ++ steps_text places n s ≡ whole → before ≡ whole
unfolding steps_text
no_text_left places s n before whole e left =
    sym (append-nil before) ∙ (ap (λ k. before ++ steps_text places k s) (sym e) ∙ left)

pub ruleset one_run = after-one
