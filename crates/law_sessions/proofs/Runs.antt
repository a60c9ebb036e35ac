-- A run by its first step, and what follows for runs that are cut or repeated.
use Rattle.std.proofs.Common.{◌≡◌, ℕ, ◌+◌, ◌-◌, ◌≤◌, zero, suc, Bool, true, false, cond, [], Option, Some, None, Result, Ok, Err, refl, sym, ap, ◌∙◌, subst, arith, nat_le}
use Rattle.std.specs.Prelude.{unwrap_or}
use Rattle.std.specs.Option.{option_map, option_or}
use Rattle.std.proofs.lemmas.Bool.Decides.{nat_tests}
use Rattle.model.specs.State.{State}
use Rattle.model.specs.Step.{step}
use Rattle.model.specs.Session.{Session, with_state}
use Rattle.model.specs.declared.event.EventFault.{EventFault}
use Rattle.model.specs.declared.run_end.Why.{Why}
use Rattle.model.specs.declared.run_end.Why.TheVariants.{Limit, Refused}
use Rattle.model.specs.declared.run_end.RunEnd.{RunEnd}
use Rattle.model.specs.Run.{OneStep, watch_met, break_met, one_later, met_now_or_later, first_met, first_refused, sooner, run_end, run_end_by, after_steps, after_steps_by, without_stops, CutRunGoesOn, RunCanBeRepeated}

-- ---- the earliest of ends

abbrev limit : ℕ → RunEnd
limit n = record { did = n; why = Limit }

abbrev now : Why → RunEnd
now why = record { did = 1; why = why }

le_suc : (a b : ℕ) → nat_le (suc a) (suc b) ≡ nat_le a b
le_suc a b = grind (arith, nat_tests)

later_if : (b : Bool) (x y : RunEnd) → cond b (one_later x) (one_later y) ≡ one_later (cond b x y)
later_if true x y = refl
later_if false x y = refl

sooner-later : (a : Option RunEnd) (b : RunEnd) → sooner (option_map one_later a)
    (one_later b) ≡ one_later (sooner a b)
sooner-later None b = refl
sooner-later (Some a) b = ap (λ t. cond t (one_later a) (one_later b)) (le_suc a.did b.did) ∙ later_if (nat_le a.did b.did) a b

unwrap-later : (r : Option RunEnd) (n : ℕ) → unwrap_or (option_map one_later r)
    (limit (suc n)) ≡ one_later (unwrap_or r (limit n))
unwrap-later None n = refl
unwrap-later (Some r) n = refl

-- one that is met at the first step comes before all that are met later
now_first : (why : Why) (b : RunEnd) → 1 ≤ b.did → sooner (Some (now why)) b ≡ now why
now_first why b h = let e : nat_le 1 b.did ≡ true = grind (arith, nat_tests) in ap (λ t. cond t (now why) b) e

later_last : (a : Option RunEnd) (why : Why) → (IsMet : (e : RunEnd) → a ≡ Some e → 1 ≤ e.did)
    → sooner (option_map one_later a) (now why) ≡ now why
later_last None why h = refl
later_last (Some a) why h =
    let one : 1 ≤ a.did = h a refl in
    let e : nat_le (suc a.did) 1 ≡ false = grind (arith, nat_tests) in
    ap (λ t. cond t (one_later a) (now why)) e

-- what is met is met after a step at least
met_positive : (m : Option Why) (rest : Option RunEnd) (e : RunEnd)
    → met_now_or_later m rest ≡ Some e → 1 ≤ e.did
met_positive (Some why) rest e h = let same : now why ≡ e = cc in subst (λ (x : RunEnd). 1 ≤ x.did) same (omega arith)
met_positive None None e h = cc
met_positive None (Some r) e h = let same : one_later r ≡ e = cc in subst (λ (x : RunEnd). 1 ≤ x.did) same (omega arith)

first_met-suc : (one : OneStep) (met : State → State → Option Why) (n : ℕ) (s t : State)
    → one s ≡ Ok t → first_met one met (suc n) s ≡ met_now_or_later (met s t)
    (first_met one met n t)
unfolding first_met
first_met-suc one met n s t h = rw h refl

first_met-refused : (one : OneStep) (met : State → State → Option Why) (n : ℕ) (s : State)
    (f : EventFault) → one s ≡ Err f → first_met one met (suc n) s ≡ None
unfolding first_met
first_met-refused one met n s f h = rw h refl

first_met-zero : (one : OneStep) (met : State → State → Option Why) (s : State)
    → first_met one met zero s ≡ None
unfolding first_met
first_met-zero one met s = refl

first_refused-zero : (one : OneStep) (s : State) → first_refused one zero s ≡ None
unfolding first_refused
first_refused-zero one s = refl

first_refused-made : (one : OneStep) (n : ℕ) (s t : State) → one s ≡ Ok t
    → first_refused one (suc n) s ≡ option_map one_later (first_refused one n t)
unfolding first_refused
first_refused-made one n s t h = rw h refl

first_refused-now : (one : OneStep) (n : ℕ) (s : State) (f : EventFault) → one s ≡ Err f
    → first_refused one (suc n) s ≡ Some (record { did = 0; why = Refused f })
unfolding first_refused
first_refused-now one n s f h = rw h refl

positive : (one : OneStep) (met : State → State → Option Why) (n : ℕ) (s : State)
    (r : Result State EventFault) → one s ≡ r → (e : RunEnd) → first_met one met n s ≡ Some e
    → 1 ≤ e.did
positive one met zero s r h e m = let none = first_met-zero one met s in cc
positive one met (suc n) s (Ok t) h e m = met_positive (met s t) (first_met one met n t) e (sym (first_met-suc one met n s t h) ∙ m)
positive one met (suc n) s (Err f) h e m = let none = first_met-refused one met n s f h in cc

-- ---- a run by its first step

-- the end of a run whose first step was made: with that step, or one step later than the rest of it
abbrev pub ends_with : Option Why → RunEnd → RunEnd
ends_with (Some why) rest = now why
ends_with None rest = one_later rest

by_first : (w b : Option Why) (ws bs : Option RunEnd) (rest : RunEnd)
    → ((e : RunEnd) → bs ≡ Some e → 1 ≤ e.did) → ((e : RunEnd) → ws ≡ Some e → 1 ≤ e.did)
    → sooner (met_now_or_later w ws)
    (sooner (met_now_or_later b bs) (one_later rest)) ≡ ends_with (option_or w b)
    (sooner ws (sooner bs rest))
by_first (Some w) (Some b) ws bs rest h k = let n = now_first b (one_later rest) (omega arith) in
    ap (sooner (Some (now w))) n ∙ now_first w (now b) (omega arith)
by_first (Some w) None ws bs rest h k = ap (sooner (Some (now w))) (sooner-later bs rest) ∙ now_first w (one_later (sooner bs rest)) (omega arith)
by_first None (Some b) ws bs rest h k = ap (sooner (option_map one_later ws)) (now_first b (one_later rest) (omega arith)) ∙ later_last ws b k
by_first None None ws bs rest h k = ap (sooner (option_map one_later ws)) (sooner-later bs rest) ∙ sooner-later ws (sooner bs rest)

pub run_end-zero : (one : OneStep) (s : Session) → run_end_by one zero s ≡ limit zero
unfolding run_end_by
run_end-zero one s = rw (
  first_met-zero one (watch_met s.watches) s.current,
  first_met-zero one (break_met s.breaks) s.current,
  first_refused-zero one
      s.current,
) refl

pub run_end-refused : (one : OneStep) (n : ℕ) (s : Session) (f : EventFault) → one s.current ≡ Err f
    → run_end_by one (suc n) s ≡ record { did = 0; why = Refused f }
unfolding run_end_by
run_end-refused one n s f h =
    rw (
      first_met-refused one (watch_met s.watches) n s.current f h,
      first_met-refused one (break_met s.breaks) n s.current f h,
      first_refused-now one
          n s.current f h,
    ) refl

pub run_end-made : (one : OneStep) (n : ℕ) (s : Session) (t : State) → one s.current ≡ Ok t
    → run_end_by one (suc n) s
    ≡ ends_with (option_or (watch_met s.watches s.current t) (break_met s.breaks s.current t))
    (run_end_by one n (with_state s t))
unfolding run_end_by
run_end-made one n s t h =
    rw (first_met-suc one (watch_met s.watches) n s.current t h, first_met-suc one (break_met s.breaks) n s.current t h, first_refused-made one n s.current t h)
    (ap (λ x. sooner (met_now_or_later (watch_met s.watches s.current t) (first_met one (watch_met s.watches) n t))
    (sooner (met_now_or_later (break_met s.breaks s.current t) (first_met one (break_met s.breaks) n t)) x)) (unwrap-later (first_refused one n t) n)
    ∙ by_first (watch_met s.watches s.current t) (break_met s.breaks s.current t) (first_met one (watch_met s.watches) n t)
    (first_met one (break_met s.breaks) n t) (unwrap_or (first_refused one n t) (limit n))
    (positive one (break_met s.breaks) n t (one t) refl) (positive one (watch_met s.watches) n t (one t) refl))

-- ---- steps of a session

pub after_steps-zero : (one : OneStep) (s : Session) → after_steps_by one zero s ≡ s
unfolding after_steps_by
after_steps-zero one s = refl

pub after_steps-made : (one : OneStep) (k : ℕ) (s : Session) (t : State) → one s.current ≡ Ok t
    → after_steps_by one (suc k) s ≡ after_steps_by one k (with_state s t)
unfolding after_steps_by
after_steps-made one k s t h = rw h refl

pub after_steps-refused : (one : OneStep) (k : ℕ) (s : Session) (f : EventFault)
    → one s.current ≡ Err f → after_steps_by one (suc k) s ≡ s
unfolding after_steps_by
after_steps-refused one k s f h = rw h refl

-- with none set no step ends a run
unmet : (before after : State) → option_or (watch_met [] before after)
    (break_met [] before after) ≡ None
unfolding watch_met break_met
unmet before after = refl

run_end-without_stops : (n : ℕ) (s : Session) (t : State) → step s.current ≡ Ok t → run_end (suc n)
    (without_stops s) ≡ one_later (run_end n (without_stops (with_state s t)))
run_end-without_stops n s t h = run_end-made step n (without_stops s) t h
    ∙ ap (λ w. ends_with w (run_end n (without_stops (with_state s t)))) (unmet s.current t)

mutual_after : (k : ℕ) (s : Session) (r : Result State EventFault) → step s.current ≡ r
    → after_steps k (without_stops s) ≡ without_stops (after_steps k s)
mutual_after zero s r h = after_steps-zero step (without_stops s) ∙ ap without_stops (sym (after_steps-zero step s))
mutual_after (suc k) s (Ok t) h = after_steps-made step k (without_stops s) t h ∙ mutual_after k (with_state s t) (step t) refl
    ∙ ap without_stops (sym (after_steps-made step k s t h))
mutual_after (suc k) s (Err f) h = after_steps-refused step k (without_stops s) f h ∙ ap without_stops (sym (after_steps-refused step k s f h))

-- ---- a run repeated

repeated_by : (n : ℕ) (s : Session) (t : State) (why : Option Why) → step s.current ≡ Ok t
    → run_end (run_end n (with_state s t)).did (without_stops (with_state s t))
    ≡ limit (run_end n (with_state s t)).did
    → run_end (ends_with why (run_end n (with_state s t))).did (without_stops s)
    ≡ limit (ends_with why (run_end n (with_state s t))).did
repeated_by n s t (Some why) h again = run_end-without_stops zero s t h ∙ ap one_later (run_end-zero step (without_stops (with_state s t)))
repeated_by n s t None h again = run_end-without_stops (run_end n (with_state s t)).did s t h ∙ ap one_later again

repeated_end : (n : ℕ) (s : Session) (r : Result State EventFault) → step s.current ≡ r
    → run_end (run_end n s).did (without_stops s) ≡ limit (run_end n s).did
repeated_end zero s r h = ap (λ (e : RunEnd). run_end e.did (without_stops s)) (run_end-zero step s) ∙ run_end-zero step (without_stops s)
    ∙ ap (λ (e : RunEnd). limit e.did) (sym (run_end-zero step s))
repeated_end (suc n) s (Ok t) h =
    let e = run_end-made step n s t h in
    ap (λ (x : RunEnd). run_end x.did (without_stops s)) e ∙ repeated_by n s t
    (option_or (watch_met s.watches s.current t) (break_met s.breaks s.current t)) h (repeated_end n (with_state s t) (step t) refl)
    ∙ ap (λ (x : RunEnd). limit x.did) (sym e)
repeated_end (suc n) s (Err f) h =
    let e = run_end-refused step n s f h in
    ap (λ (x : RunEnd). run_end x.did (without_stops s)) e ∙ run_end-zero step (without_stops s) ∙ ap (λ (x : RunEnd). limit x.did) (sym e)

pub run_can_be_repeated : RunCanBeRepeated
run_can_be_repeated n s =
    let again = repeated_end n s (step s.current) refl in
    (again, ap (λ (e : RunEnd). after_steps e.did (without_stops s)) again ∙ mutual_after (run_end n s).did s (step s.current) refl)

-- ---- a run cut short

-- the end of the rest, seen from the start of the run
abbrev beyond : ℕ → RunEnd → RunEnd
beyond k e = record { did = k + e.did; why = e.why }

none_before : (e : RunEnd) → beyond 0 e ≡ e
none_before e = let z : 0 + e.did ≡ e.did = omega arith in λ i. record { did = z i; why = e.why }

one_before : (e : RunEnd) → one_later e ≡ beyond 1 e
one_before e = let z : suc e.did ≡ 1 + e.did = omega arith in λ i. record { did = z i; why = e.why }

more_before : (k : ℕ) (e : RunEnd) → one_later (beyond k e) ≡ beyond (suc k) e
more_before k e = let z : suc (k + e.did) ≡ suc k + e.did = omega arith in λ i. record { did = z i; why = e.why }

-- the end of what is left of n steps after a cut
abbrev rest_of : ℕ → RunEnd → Session → RunEnd
rest_of n cut s = beyond cut.did (run_end (n - cut.did) (without_stops (after_steps cut.did s)))

none_cut : (n : ℕ) (s : Session) (why : Why) → run_end n (without_stops s) ≡ rest_of n (record { did = 0; why = why }) s
none_cut n s why =
    let z : n ≡ n - 0 = omega arith in
    ap (λ m. run_end m (without_stops s)) z ∙ ap (λ x. run_end (n - 0) (without_stops x)) (sym (after_steps-zero step s))
    ∙ sym (none_before (run_end (n - 0) (without_stops (after_steps 0 s))))

cut_by : (n : ℕ) (s : Session) (t : State) (why : Option Why) → step s.current ≡ Ok t
    → run_end n (without_stops (with_state s t)) ≡ rest_of n (run_end n (with_state s t))
    (with_state s t)
    → run_end (suc n) (without_stops s) ≡ rest_of (suc n)
    (ends_with why (run_end n (with_state s t))) s
cut_by n s t (Some why) h rest =
    let z : n ≡ suc n - 1 = omega arith in
    run_end-without_stops n s t h ∙ ap one_later (ap (λ m. run_end m (without_stops (with_state s t))) z
    ∙ ap (λ x. run_end (suc n - 1) (without_stops x)) (sym (after_steps-made step zero s t h ∙ after_steps-zero step (with_state s t))))
    ∙ one_before (run_end (suc n - 1) (without_stops (after_steps 1 s)))
cut_by n s t None h rest =
    let k = (run_end n (with_state s t)).did in
    let z : n - k ≡ suc n - suc k = omega arith in
    run_end-without_stops n s t h ∙ ap one_later (rest ∙ ap (λ m. beyond k (run_end m (without_stops (after_steps k (with_state s t))))) z
    ∙ ap (λ x. beyond k (run_end (suc n - suc k) (without_stops x))) (sym (after_steps-made step k s t h)))
    ∙ more_before k (run_end (suc n - suc k) (without_stops (after_steps (suc k) s)))

cut_end_of : (n : ℕ) (s : Session) (r : Result State EventFault) → step s.current ≡ r
    → run_end n (without_stops s) ≡ rest_of n (run_end n s) s
cut_end_of zero s r h = none_cut zero s Limit ∙ ap (λ e. rest_of zero e s) (sym (run_end-zero step s))
cut_end_of (suc n) s (Ok t) h =
    cut_by n s t (option_or (watch_met s.watches s.current t) (break_met s.breaks s.current t)) h (cut_end_of n (with_state s t) (step t) refl)
    ∙ ap (λ e. rest_of (suc n) e s) (sym (run_end-made step n s t h))
cut_end_of (suc n) s (Err f) h = none_cut (suc n) s (Refused f) ∙ ap (λ e. rest_of (suc n) e s) (sym (run_end-refused step n s f h))

-- ---- steps after steps

still : (j : ℕ) (s : Session) (f : EventFault) → step s.current ≡ Err f → after_steps j s ≡ s
still zero s f h = after_steps-zero step s
still (suc j) s f h = after_steps-refused step j s f h

pub after_steps-add : (k j : ℕ) (s : Session) (r : Result State EventFault) → step s.current ≡ r
    → after_steps (k + j) s ≡ after_steps j (after_steps k s)
after_steps-add zero j s r h = (let z : zero + j ≡ j = omega arith in ap (λ m. after_steps m s) z) ∙ ap (after_steps j) (sym (after_steps-zero step s))
after_steps-add (suc k) j s (Ok t) h =
    (let z : suc k + j ≡ suc (k + j) = omega arith in ap (λ m. after_steps m s) z) ∙ after_steps-made step (k + j) s t h
    ∙ after_steps-add k j (with_state s t) (step t) refl
    ∙ ap (after_steps j) (sym (after_steps-made step k s t h))
after_steps-add (suc k) j s (Err f) h =
    (let z : suc k + j ≡ suc (k + j) = omega arith in ap (λ m. after_steps m s) z) ∙ after_steps-refused step (k + j) s f h
    ∙ sym (ap (after_steps j) (after_steps-refused step k s f h) ∙ still j s f h)

pub cut_run_goes_on : CutRunGoesOn
cut_run_goes_on n s =
    let k = (run_end n s).did in
    let rest = run_end (n - k) (without_stops (after_steps k s)) in
    let whole = cut_end_of n s (step s.current) refl in (
      sym (ap (λ (e : RunEnd). after_steps e.did (without_stops s)) whole ∙ after_steps-add k rest.did (without_stops s) (step s.current) refl
          ∙ ap (after_steps rest.did) (mutual_after k s (step s.current) refl)),
      ap (λ (e : RunEnd). e.why) (sym whole),
    )
