-- A run by its first step, which is a run of one.
use Rattle.std.proofs.Common.{◌≡◌, ◌∙◌, ℕ, zero, suc, ◌+◌, ◌-◌, ◌≤◌, Bool, true, false, cond, true≢false, ◌⊎◌, inl, inr, Option, Some, None, Result, Ok, Err, refl, sym, ap, subst, arith}
use Rattle.std.specs.Option.{option_map, option_or}
use Rattle.std.specs.Prelude.{OnErr}
use Rattle.model.specs.Run.{after_run, after_steps, break_met, one_later, run_end, watch_met}
use Rattle.model.specs.Session.{Session, with_state}
use Rattle.model.specs.State.{State}
use Rattle.model.specs.Step.{step}
use Rattle.model.specs.declared.event.EventFault.{EventFault}
use Rattle.model.specs.declared.run_end.RunEnd.{RunEnd}
use Rattle.model.specs.declared.run_end.Why.{Why}
use Rattle.model.specs.declared.run_end.Why.TheVariants.{Break, Limit, Refused, Watch}
use Rattle.law_sessions.proofs.Runs.{after_steps-add, after_steps-made, after_steps-zero, ends_with, run_end-made, run_end-refused, run_end-zero}
use Rattle.mos65_c.specs.Records.{goes_on}

abbrev end : ℕ → Why → RunEnd
end did why = record { did = did; why = why }

-- The end of a run, by that of its first step and that of the rest of it.
abbrev followed : RunEnd → RunEnd → RunEnd
followed first rest = cond (goes_on first.why) (one_later rest) first

abbrev pub later : ℕ → RunEnd → RunEnd
later k e = record { did = k + e.did; why = e.why }

-- ---- why a step ends a run

abbrev met : Session → State → Option Why
met s t = option_or (watch_met s.watches s.current t) (break_met s.breaks s.current t)

ends_by : (x : Option ℕ) (b : Bool) (pc : ℕ) (why : Why) → option_or (option_map Watch x) (cond b (Some (Break pc)) None) ≡ Some why → goes_on why ≡ false
ends_by (Some a) b pc Limit e = absurd cc
ends_by None true pc Limit e = absurd cc
ends_by None false pc Limit e = absurd cc
ends_by x b pc (Watch a) e = refl
ends_by x b pc (Break a) e = refl
ends_by x b pc (Refused f) e = refl

met_ends : (s : Session) (t : State) (why : Why) → met s t ≡ Some why → goes_on why ≡ false
unfolding watch_met break_met
met_ends s t why e = ends_by _ _ _ why e

-- ---- a run of one

one_refused : (s : Session) (f : EventFault) → step s.current ≡ Err f → run_end 1 s ≡ end 0 (Refused f)
one_refused s f h = run_end-refused step zero s f h

one_ended : (s : Session) (t : State) (why : Why) → step s.current ≡ Ok t → met s t ≡ Some why → run_end 1 s ≡ end 1 why
one_ended s t why h m = run_end-made step zero s t h ∙ ap (λ w. ends_with w (run_end zero (with_state s t))) m

one_whole : (s : Session) (t : State) → step s.current ≡ Ok t → met s t ≡ None → run_end 1 s ≡ end 1 Limit
one_whole s t h m =
    run_end-made step zero s t h ∙ ap (λ w. ends_with w (run_end zero (with_state s t))) m ∙ ap one_later (run_end-zero step (with_state s t))

after_one : (s : Session) (t : State) → step s.current ≡ Ok t → after_steps 1 s ≡ with_state s t
after_one s t h = after_steps-made step zero s t h ∙ after_steps-zero step (with_state s t)

-- Its step was made, or the run ends with it.
abbrev IsMade : Session → Type 0
IsMade s = ((run_end 1 s).did ≡ 1) × (step s.current ≡ Ok (after_run 1 s).current)

abbrev IsOver : Session → Type 0
IsOver s = ((run_end 1 s).did ≡ 0) × (goes_on (run_end 1 s).why ≡ false)

made_of : (s : Session) (t : State) (why : Why) → step s.current ≡ Ok t → run_end 1 s ≡ end 1 why → IsMade s
made_of s t why h e = (
  ap (λ (r : RunEnd). r.did) e,
  h ∙ ap (λ (u : Session). Ok u.current) (sym (ap (λ (r : RunEnd). after_steps r.did s) e ∙ after_one s t h)),
)

made_by : (s : Session) (t : State) (m : Option Why) → step s.current ≡ Ok t → met s t ≡ m → IsMade s
made_by s t (Some why) h e = made_of s t why h (one_ended s t why h e)
made_by s t None h e = made_of s t Limit h (one_whole s t h e)

made_or_over : (s : Session) (r : Result State EventFault) → step s.current ≡ r → IsMade s ⊎ IsOver s
made_or_over s (Ok t) h = inl (made_by s t (met s t) h refl)
made_or_over s (Err f) h =
    let e = one_refused s f h in inr (ap (λ (r : RunEnd). r.did) e, ap (λ (r : RunEnd). goes_on r.why) e)

within-by : (s : Session) → IsMade s ⊎ IsOver s → (run_end 1 s).did ≤ 1
within-by s (inl made) = omega (arith, made.0)
within-by s (inr over) = omega (arith, over.0)

pub within : (s : Session) → (run_end 1 s).did ≤ 1
within s = within-by s (made_or_over s (step s.current) refl)

goes-by : (s : Session) → IsMade s ⊎ IsOver s → goes_on (run_end 1 s).why ≡ true → (run_end 1 s).did ≡ 1
goes-by s (inl made) on = made.0
goes-by s (inr over) on = absurd (true≢false (sym on ∙ over.1))

goes : (s : Session) → goes_on (run_end 1 s).why ≡ true → (run_end 1 s).did ≡ 1
goes s = goes-by s (made_or_over s (step s.current) refl)

steps-by : (s : Session) → IsMade s ⊎ IsOver s → ((run_end 1 s).did ≡ 0 → ⊥) → step s.current ≡ Ok (after_run 1 s).current
steps-by s (inl made) some = made.1
steps-by s (inr over) some = absurd (some over.0)

steps : (s : Session) → ((run_end 1 s).did ≡ 0 → ⊥) → step s.current ≡ Ok (after_run 1 s).current
steps s = steps-by s (made_or_over s (step s.current) refl)

-- The same of the end and the session that a run of one answers.
module _ (s u : Session) (e : RunEnd) (is_end : e ≡ run_end 1 s) (is_after : u ≡ after_steps e.did s) where
  pub after_is : u ≡ after_run 1 s
  after_is = is_after ∙ ap (λ (r : RunEnd). after_steps r.did s) is_end

  pub did_one : (e.did ≡ 0 → ⊥) → e.did ≡ 1
  did_one some =
      let few : e.did ≤ 1 = subst (λ (r : RunEnd). r.did ≤ 1) (sym is_end) (within s) in
      omega (arith, few, some)

  pub made_one : (e.did ≡ 0 → ⊥) → step s.current ≡ Ok u.current
  made_one some =
      steps s (λ none. some (ap (λ (r : RunEnd). r.did) is_end ∙ none)) ∙ ap (λ (v : Session). Ok v.current) (sym after_is)

  pub none_made : e.did ≡ 0 → u ≡ s
  none_made none = is_after ∙ ap (λ k. after_steps k s) none ∙ after_steps-zero step s

-- ---- a run by its first step

first-made : (n : ℕ) (s : Session) (t : State) (m : Option Why) → step s.current ≡ Ok t → met s t ≡ m
    → run_end (suc n) s ≡ followed (run_end 1 s) (run_end n (after_run 1 s))
first-made n s t (Some why) h e =
    run_end-made step n s t h ∙ ap (λ w. ends_with w (run_end n (with_state s t))) e
    ∙ sym (ap (λ x. followed x (run_end n (after_run 1 s))) (one_ended s t why h e)
    ∙ ap (λ b. cond b (one_later (run_end n (after_run 1 s))) (end 1 why)) (met_ends s t why e))
first-made n s t None h e =
    let one = one_whole s t h e in
    run_end-made step n s t h ∙ ap (λ w. ends_with w (run_end n (with_state s t))) e
    ∙ sym (ap (λ x. followed x (run_end n (after_run 1 s))) one
    ∙ ap (λ u. one_later (run_end n u)) (ap (λ (r : RunEnd). after_steps r.did s) one ∙ after_one s t h))

first-by : (n : ℕ) (s : Session) (r : Result State EventFault) → step s.current ≡ r
    → run_end (suc n) s ≡ followed (run_end 1 s) (run_end n (after_run 1 s))
first-by n s (Ok t) h = first-made n s t (met s t) h refl
first-by n s (Err f) h =
    run_end-refused step n s f h ∙ sym (ap (λ x. followed x (run_end n (after_run 1 s))) (one_refused s f h))

first : (n : ℕ) (s : Session) → run_end (suc n) s ≡ followed (run_end 1 s) (run_end n (after_run 1 s))
first n s = first-by n s (step s.current) refl

no_fewer-by : (e rest : RunEnd) (b : Bool) → e.did ≤ 1 → e.did ≤ (cond b (one_later rest) e).did
no_fewer-by e rest true small = omega (arith, small)
no_fewer-by e rest false small = omega arith

no_fewer : (n : ℕ) (s : Session) → (run_end 1 s).did ≤ (run_end (suc n) s).did
no_fewer n s =
    subst (λ (x : RunEnd). (run_end 1 s).did ≤ x.did) (sym (first n s))
    (no_fewer-by (run_end 1 s) (run_end n (after_run 1 s)) (goes_on (run_end 1 s).why) (within s))

-- ---- runs of one, one after another: the whole run is so many steps and what is left of it

later-more : (k : ℕ) (e : RunEnd) → later k (one_later e) ≡ later (k + 1) e
later-more k e = let sum : k + suc e.did ≡ (k + 1) + e.did = omega arith in λ i. record { did = sum i; why = e.why }

pub begins : (limit : ℕ) (s : Session) → run_end limit s ≡ later 0 (run_end (limit - 0) s)
begins limit s =
    let all : limit ≡ limit - 0 = omega arith in
    let e = run_end (limit - 0) s in
    let sum : e.did ≡ 0 + e.did = omega arith in
    ap (λ n. run_end n s) all ∙ (λ i. record { did = sum i; why = e.why })

pub run-goes : (left n did : ℕ) (s : Session) (whole : RunEnd) → whole ≡ later did (run_end left s) → left ≡ suc n
    → goes_on (run_end 1 s).why ≡ true → whole ≡ later (did + 1) (run_end n (after_run 1 s))
run-goes left n did s whole h more on =
    h ∙ ap (λ j. later did (run_end j s)) more ∙ ap (later did) (first n s
    ∙ ap (λ b. cond b (one_later (run_end n (after_run 1 s))) (run_end 1 s)) on) ∙ later-more did (run_end n (after_run 1 s))

pub run-ends : (left n did : ℕ) (s : Session) (whole : RunEnd) → whole ≡ later did (run_end left s) → left ≡ suc n
    → goes_on (run_end 1 s).why ≡ false → whole ≡ later did (run_end 1 s)
run-ends left n did s whole h more off =
    h ∙ ap (λ j. later did (run_end j s)) more ∙ ap (later did) (first n s
    ∙ ap (λ b. cond b (one_later (run_end n (after_run 1 s))) (run_end 1 s)) off)

pub run-over : (left did : ℕ) (s : Session) (whole : RunEnd) → whole ≡ later did (run_end left s) → left ≡ 0 → whole ≡ end did Limit
run-over left did s whole h none =
    let sum : did + 0 ≡ did = omega arith in
    h ∙ ap (λ j. later did (run_end j s)) none ∙ ap (later did) (run_end-zero step s) ∙ (λ i. end (sum i) Limit)

-- The session, so many steps after the start of the run.
pub after-more : (did : ℕ) (s u : Session) → u ≡ after_steps did s → after_run 1 u ≡ after_steps (did + (run_end 1 u).did) s
after-more did s u h =
    ap (λ v. after_steps (run_end 1 u).did v) h ∙ sym (after_steps-add did (run_end 1 u).did s (step s.current) refl)

pub after-one : (did : ℕ) (s u : Session) → u ≡ after_steps did s → goes_on (run_end 1 u).why ≡ true → after_run 1 u ≡ after_steps (did + 1) s
after-one did s u h on = after-more did s u h ∙ ap (λ k. after_steps (did + k) s) (goes u on)

-- At each point it has made no more steps than the whole run.
pub no_more : (left n did : ℕ) (s : Session) (whole : RunEnd) → whole ≡ later did (run_end left s) → left ≡ suc n → did + (run_end 1 s).did ≤ whole.did
no_more left n did s whole h more =
    let few = no_fewer n s in
    let sum : whole.did ≡ did + (run_end (suc n) s).did = ap (λ (x : RunEnd). x.did) h ∙ ap (λ j. did + (run_end j s).did) more in
    omega (arith, few, sum)

-- ---- what a run of one answers says of the whole run

pub told-why : (b c : Bool) (e r : RunEnd) → b ≡ goes_on e.why → e ≡ r → b ≡ c → goes_on r.why ≡ c
told-why b c e r told same h = sym (ap (λ (x : RunEnd). goes_on x.why) same) ∙ sym told ∙ h

pub on_err : {X E : Type 0} (r : Result X E) (P : Type 0) → P → OnErr r P
on_err (Ok x) P h = tt
on_err (Err e) P h = h
