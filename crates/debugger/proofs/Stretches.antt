-- Steps made one after another, as a run and as a trail see them.
use Rattle.std.proofs.Common.{◌≡◌, ◌≢◌, ℕ, ◌+◌, ◌-◌, ◌<◌, ◌≤◌, zero, suc, Bool, true, false, List, Option, Some, None, Ok, Err, refl, sym, ap, ◌∙◌, subst, arith}
use Rattle.std.specs.Prelude.{nat_eq, slice_index}
use Rattle.std.specs.List.{list_any}
use Rattle.std.specs.Option.{option_map, option_or}
use Rattle.model.specs.State.{State}
use Rattle.model.specs.Step.{step}
use Rattle.model.specs.Session.{Session, with_state}
use Rattle.model.specs.Run.{run_end, after_steps, stop_of, watch_met, break_met, lowest}
use Rattle.model.specs.declared.event.Event.TheVariants.{Step}
use Rattle.model.specs.declared.event.EventFault.{EventFault}
use Rattle.model.specs.declared.run_end.Why.{Why}
use Rattle.model.specs.declared.run_end.Why.TheVariants.{Watch}
use Rattle.model.specs.declared.run_end.RunEnd.{RunEnd}
use Rattle.cpu.specs.Running.{AllButLast, AllGoOn, GoesOn, IsStep}
use Rattle.debugger.specs.Course.{IsQuiet, with_steps}
use Rattle.debugger.specs.Replay.{Follows, IsHistory}
use Rattle.debugger.specs.Running.{RunsTo, StepsTo, beyond, end_after, end_at, session_of}
use Rattle.debugger.specs.declared.stops.Stretch.{Stretch}
use Rattle.debugger.specs.Trail.{HasRoom}
use Rattle.debugger.specs.declared.trail.Trail.{Trail}
use Rattle.law_sessions.proofs.Runs.{after_steps-add, after_steps-zero, ends_with}
use Rattle.debugger.proofs.Quiet.{noted_then, number_then, quieter, room_then}
use Rattle.debugger.proofs.Replays.{grows_plain}
use Rattle.debugger.proofs.Runs.{beyond-later, event_is_step, run_goes, run_made, run_refused, step_after}
use Rattle.debugger.proofs.Watching.{none_kept}

-- ---- a trail

-- steps that change of the bus only memory
abbrev pub AllSteps : List ℕ → ℕ → State → State → Type 0
AllSteps bytes zero s t = t ≡ s
AllSteps bytes (suc n) s t = (m : State) × AllSteps bytes n s m × IsStep bytes m t

pub steps_on : (stops bytes : List ℕ) (n : ℕ) (s t : State) → AllGoOn stops bytes n s t → AllSteps bytes n s t
steps_on stops bytes zero s t all = all
steps_on stops bytes (suc n) s t all = (all.0, steps_on stops bytes n s all.0 all.1, all.2.step)

pub steps_last : (stops bytes : List ℕ) (n : ℕ) (s t : State) → AllButLast stops bytes n s t → AllSteps bytes n s t
steps_last stops bytes zero s t all = absurd (omega (arith, all.0))
steps_last stops bytes (suc n) s t all =
    let less : suc n - 1 ≡ n = omega arith in
    (all.1.0, steps_on stops bytes n s all.1.0 (subst (λ k. AllGoOn stops bytes k s all.1.0) less all.1.1), all.1.2)

pub steps_made : (stops bytes : List ℕ) (stopped : Bool) (n : ℕ) (s t : State) → (stopped ≡ false → AllGoOn stops bytes n s t)
    → (stopped ≡ true → AllButLast stops bytes n s t) → AllSteps bytes n s t
steps_made stops bytes true n s t on last = steps_last stops bytes n s t (last refl)
steps_made stops bytes false n s t on last = steps_on stops bytes n s t (on refl)

-- a trail on which some steps more are counted
pub record IsLonger (t : Trail) (p q n : ℕ) (s now : State) : Type 0 where
  pub room : HasRoom (with_steps t (p + n))
  pub quiet : IsQuiet t (p + n) (q - n)
  pub history : IsHistory 1024 (with_steps t (p + n)).kept.items (with_steps t (p + n)).events.items now
  pub states : (breaks watches : List ℕ) (number : ℕ) → session_of (with_steps t (p + n)) now breaks watches number
      ≡ after_steps n (session_of (with_steps t p) s breaks watches number)

follows_step : (bytes : List ℕ) (s t : State) → IsStep bytes s t → Follows s Step t
follows_step bytes s t is = record { accepted = event_is_step s ∙ is.made; grows = grows_plain s t is.rest }

longer_none : (t : Trail) (p q : ℕ) (s : State) → HasRoom (with_steps t p) → IsQuiet t p q
    → IsHistory 1024 (with_steps t p).kept.items (with_steps t p).events.items s → IsLonger t p q 0 s s
longer_none t p q s room quiet history =
    let same : p ≡ p + 0 = omega arith in
    let all : q ≡ q - 0 = omega arith in
    record {
      room = subst (λ k. HasRoom (with_steps t k)) same room;
      quiet = subst (λ k. IsQuiet t k (q - 0)) same (subst (λ k. IsQuiet t p k) all quiet);
      history = subst (λ k. IsHistory 1024 (with_steps t k).kept.items (with_steps t k).events.items s) same history;
      states = λ breaks watches number. ap (λ k. session_of (with_steps t k) s breaks watches number) (sym same)
          ∙ sym (after_steps-zero step (session_of (with_steps t p) s breaks watches number));
    }

longer_one : (t : Trail) (bytes : List ℕ) (p q n : ℕ) (s m now : State) → n < q → IsLonger t p q n s m → IsStep bytes m now → IsLonger t p q (suc n) s now
longer_one t bytes p q n s m now some before is =
    let more : 0 < q - n = omega arith in
    let same : p + n + 1 ≡ p + suc n = omega arith in
    let less : q - n - 1 ≡ q - suc n = omega arith in
    let noted = noted_then t (p + n) (q - n) m now before.room before.quiet more before.history (follows_step bytes m now is) in
    let number = number_then t (p + n) (q - n) now before.room before.quiet more in
    record {
      room = subst (λ k. HasRoom (with_steps t k)) same (room_then t (p + n) (q - n) now before.room before.quiet more);
      quiet = subst (λ k. IsQuiet t k (q - suc n)) same (subst (λ k. IsQuiet t (p + n + 1) k) less (quieter t (p + n) (q - n) before.quiet more));
      history = subst (λ k. IsHistory 1024 (with_steps t k).kept.items (with_steps t k).events.items now) same noted.history;
      states = λ breaks watches replayed.
          let first = session_of (with_steps t p) s breaks watches replayed in
          let middle = session_of (with_steps t (p + n)) m breaks watches replayed in
          let count : n + 1 ≡ suc n = omega arith in
          ap (λ k. session_of (with_steps t k) now breaks watches replayed) (sym same)
          ∙ (λ i. record {
            earlier = noted.states i;
            current = now;
            history = t.history;
            breaks = breaks;
            watches = watches;
            number =
                number i;
            replayed = replayed;
          })
          ∙ step_after n first middle now (before.states breaks watches replayed) is.made ∙ ap (λ k. after_steps k first) count;
    }

pub longer : (t : Trail) (bytes : List ℕ) (p q n : ℕ) (s now : State) → HasRoom (with_steps t p) → IsQuiet t p q
    → IsHistory 1024 (with_steps t p).kept.items (with_steps t p).events.items s
    → n ≤ q → AllSteps bytes n s now → IsLonger t p q n s now
longer t bytes p q zero s now room quiet history within all = subst (λ u. IsLonger t p q 0 s u) (sym all) (longer_none t p q s room quiet history)
longer t bytes p q (suc n) s now room quiet history within all =
    let before = longer t bytes p q n s all.0 room quiet history (omega arith) all.1 in
    longer_one t bytes p q n s all.0 now (omega arith) before all.2

-- ---- a run

-- what leads to no stop and stores nothing where stores are watched ends no run
no_break : (breaks : List ℕ) (stops : List ℕ) (a b : State) → ((k : ℕ) → slice_index stops k ≡ 0 → list_any (nat_eq k) breaks ≡ false)
    → slice_index stops b.regs.pc ≡ 0 → break_met breaks a b ≡ None
unfolding break_met
no_break breaks stops a b marks pass = rw (marks b.regs.pc pass) refl

no_watch : (watches bytes : List ℕ) (a b : State) → ((k : ℕ) → slice_index bytes k ≡ 0 → list_any (nat_eq k) watches ≡ false)
    → ((k : ℕ) → slice_index bytes k ≢ 0 → slice_index b.bus.memory k ≡ slice_index a.bus.memory k) → watch_met watches a b ≡ None
unfolding watch_met
no_watch watches bytes a b marks kept = ap (λ l. option_map Watch (lowest l)) (none_kept watches bytes a b marks kept)

-- some steps after which a run goes on
pub record IsOn (s : Session) (n : ℕ) (t : State) : Type 0 where
  pub current : (after_steps n s).current ≡ t
  pub breaks : (after_steps n s).breaks ≡ s.breaks
  pub watches : (after_steps n s).watches ≡ s.watches
  pub end : (count : ℕ) → n ≤ count → run_end count s ≡ beyond n (run_end (count - n) (after_steps n s))

on_none : (s : Session) → IsOn s 0 s.current
on_none s =
    let here = after_steps-zero step s in
    record {
      current = ap (λ u. u.current) here;
      breaks = ap (λ u. u.breaks) here;
      watches = ap (λ u. u.watches) here;
      end = λ count h.
          let all : count ≡ count - 0 = omega arith in
          let rest = run_end (count - 0) s in
          let z : rest.did ≡ 0 + rest.did = omega arith in
          ap (λ n. run_end n s) all ∙ (λ i. record { did = z i; why = rest.why }) ∙ ap (λ u. beyond 0 (run_end (count - 0) u)) (sym here);
    }

goes_none : (s u : Session) (t : State) (stops bytes : List ℕ) → u.breaks ≡ s.breaks → u.watches ≡ s.watches
    → ((k : ℕ) → slice_index stops k ≡ 0 → list_any (nat_eq k) s.breaks ≡ false)
    → ((k : ℕ) → slice_index bytes k ≡ 0 → list_any (nat_eq k) s.watches ≡ false) → GoesOn stops bytes u.current t → None ≡ stop_of u u.current t
unfolding stop_of
goes_none s u t stops bytes breaks watches marks none g =
    let first = no_watch u.watches bytes u.current t (λ k h. ap (list_any (nat_eq k)) watches ∙ none k h) g.step.kept in
    let second = no_break u.breaks stops u.current t (λ k h. ap (list_any (nat_eq k)) breaks ∙ marks k h) g.pass in
    sym (ap (λ w. option_or w (break_met u.breaks u.current t)) first ∙ second)

on_one : (s : Session) (n : ℕ) (m t : State) (stops bytes : List ℕ) → ((k : ℕ) → slice_index stops k ≡ 0 → list_any (nat_eq k) s.breaks ≡ false)
    → ((k : ℕ) → slice_index bytes k ≡ 0 → list_any (nat_eq k) s.watches ≡ false)
    → IsOn s n m → GoesOn stops bytes m t → IsOn s (suc n) t
on_one s n m t stops bytes marks none on goes =
    let u = after_steps n s in
    let g : GoesOn stops bytes u.current t = subst (λ x. GoesOn stops bytes x t) (sym on.current) goes in
    let made = g.step.made in
    let stop = goes_none s u t stops bytes on.breaks on.watches marks none g in
    let count_on : n + 1 ≡ suc n = omega arith in
    let next : with_state u t ≡ after_steps (suc n) s = step_after n s u t refl made ∙ ap (λ k. after_steps k s) count_on in
    record {
      current = ap (λ x. x.current) (sym next);
      breaks = ap (λ x. x.breaks) (sym next) ∙ on.breaks;
      watches = ap (λ x. x.watches) (sym next) ∙ on.watches;
      end = λ count h.
          let some : 0 < count - n = omega arith in
          let less : count - n - 1 ≡ count - suc n = omega arith in
          on.end count (omega arith) ∙ ap (beyond n) (run_goes (count - n) u t some made stop) ∙ beyond-later n (run_end (count - n - 1) (with_state u t))
          ∙ ap (λ k. beyond k (run_end (count - n - 1) (with_state u t))) count_on ∙ ap (λ k. beyond (suc n) (run_end k (with_state u t))) less
          ∙ ap (λ x. beyond (suc n) (run_end (count - suc n) x)) next;
    }

pub on_all : (s : Session) (n : ℕ) (t : State) (stops bytes : List ℕ) → ((k : ℕ) → slice_index stops k ≡ 0 → list_any (nat_eq k) s.breaks ≡ false)
    → ((k : ℕ) → slice_index bytes k ≡ 0 → list_any (nat_eq k) s.watches ≡ false)
    → AllGoOn stops bytes n s.current t → IsOn s n t
on_all s zero t stops bytes marks none all = subst (IsOn s 0) (sym all) (on_none s)
on_all s (suc n) t stops bytes marks none all = on_one s n all.0 t stops bytes marks none (on_all s n all.0 stops bytes marks none all.1) all.2

-- steps of a run that end nothing, none perhaps
pub record GoesTo (s : Session) (n : ℕ) (u : Session) : Type 0 where
  pub after : u ≡ after_steps n s
  pub end : (count : ℕ) → n ≤ count → run_end count s ≡ beyond n (run_end (count - n) u)

pub goes_to : (s u : Session) (n : ℕ) (t : State) (stops bytes : List ℕ) → ((k : ℕ) → slice_index stops k ≡ 0 → list_any (nat_eq k) s.breaks ≡ false)
    → ((k : ℕ) → slice_index bytes k ≡ 0 → list_any (nat_eq k) s.watches ≡ false)
    → AllGoOn stops bytes n s.current t → u ≡ after_steps n s → GoesTo s n u
goes_to s u n t stops bytes marks none all at =
    let on = on_all s n t stops bytes marks none all in
    record { after = at; end = λ count h. on.end count h ∙ ap (λ x. beyond n (run_end (count - n) x)) (sym at) }

pub runs_on : (s u : Session) (n : ℕ) → 0 < n → GoesTo s n u → RunsTo s (Ok (record { steps = n; why = None })) u
runs_on s u n some goes = (some, goes.after, goes.end)

ends_after : (k : ℕ) (why : Option Why) (rest : RunEnd) → beyond k (ends_with why rest) ≡ end_after (k + 1) why rest
ends_after k (Some why) rest = refl
ends_after k None rest = beyond-later k rest

-- a run whose first steps but the last end nothing
stop_here : (s v : Session) (t : State) (bytes : List ℕ) (why : Option Why) → v.breaks ≡ s.breaks → v.watches ≡ s.watches
    → ((k : ℕ) → slice_index bytes k ≡ 0 → list_any (nat_eq k) s.watches ≡ false) → IsStep bytes v.current t → why ≡ break_met s.breaks t t
    → why ≡ stop_of v v.current t
unfolding stop_of break_met
stop_here s v t bytes why breaks watches none is told =
    let first = no_watch v.watches bytes v.current t (λ k h. ap (list_any (nat_eq k)) watches ∙ none k h) is.kept in
    told ∙ ap (λ b. break_met b t t) (sym breaks) ∙ sym (ap (λ w. option_or w (break_met v.breaks v.current t)) first)

pub runs_last : (s u : Session) (n : ℕ) (t : State) (stops bytes : List ℕ) (why : Option Why)
    → ((k : ℕ) → slice_index stops k ≡ 0 → list_any (nat_eq k) s.breaks ≡ false) → ((k : ℕ) → slice_index bytes k ≡ 0 → list_any (nat_eq k) s.watches ≡ false)
    → AllButLast stops bytes n s.current t → why ≡ break_met s.breaks t t → u ≡ after_steps n s → RunsTo s (Ok (record { steps = n; why = why })) u
runs_last s u zero t stops bytes why marks none all told at = absurd (omega (arith, all.0))
runs_last s u (suc n) t stops bytes why marks none all told at =
    let less : suc n - 1 ≡ n = omega arith in
    let m = all.1.0 in
    let on = on_all s n m stops bytes marks none (subst (λ k. AllGoOn stops bytes k s.current m) less all.1.1) in
    let v = after_steps n s in
    let is : IsStep bytes v.current t = subst (λ x. IsStep bytes x t) (sym on.current) all.1.2 in
    let stop : why ≡ stop_of v v.current t = stop_here s v t bytes why on.breaks on.watches none is told in
    let count_on : n + 1 ≡ suc n = omega arith in
    let next : with_state v t ≡ u = step_after n s v t refl is.made ∙ ap (λ k. after_steps k s) count_on ∙ sym at in (
      all.0,
      at,
      λ count h.
          let some : 0 < count - n = omega arith in
          let after : count - n - 1 ≡ count - suc n = omega arith in
          on.end count (omega arith) ∙ ap (beyond n) (run_made (count - n) v t why some is.made stop)
          ∙ ends_after n why (run_end (count - n - 1) (with_state v t))
          ∙ ap (λ k. end_after k why (run_end (count - n - 1) (with_state v t))) count_on
          ∙ ap (λ k. end_after (suc n) why (run_end k (with_state v t))) after ∙ ap (λ x. end_after (suc n) why (run_end (count - suc n) x)) next,
    )

-- a step by itself comes after the others
pub runs_then : (s u t : Session) (n : ℕ) (why : Option Why) → GoesTo s n u → StepsTo u (Ok why) t → RunsTo s (Ok (record { steps = n + 1; why = why })) t
runs_then s u t n why goes told =
    let next : with_state u told.0 ≡ t = sym told.3 in (
      omega arith,
      told.3 ∙ step_after n s u told.0 goes.after told.1,
      λ count h.
          let some : 0 < count - n = omega arith in
          let less : count - n - 1 ≡ count - (n + 1) = omega arith in
          goes.end count (omega arith) ∙ ap (beyond n) (run_made (count - n) u told.0 why some told.1 told.2)
          ∙ ends_after n why (run_end (count - n - 1) (with_state u told.0))
          ∙ ap (λ k. end_after (n + 1) why (run_end k (with_state u told.0))) less ∙ ap (λ x. end_after (n + 1) why (run_end (count - (n + 1)) x)) next,
    )

-- a step by itself is refused after the others, which are told first
pub runs_before : (s u t : Session) (n : ℕ) (fault : EventFault) → 0 < n → GoesTo s n u → StepsTo u (Err fault) t
    → RunsTo s (Ok (record { steps = n; why = None })) t
runs_before s u t n fault some goes told =
    (some, told.1 ∙ goes.after, λ count h. goes.end count h ∙ ap (λ x. beyond n (run_end (count - n) x)) (sym told.1))

pub runs_refused : (s u t : Session) (n : ℕ) (fault : EventFault) → n ≡ 0 → GoesTo s n u → StepsTo u (Err fault) t → RunsTo s (Err fault) t
runs_refused s u t n fault none goes told =
    let same : u ≡ s = goes.after ∙ ap (λ k. after_steps k s) none ∙ after_steps-zero step s in
    (λ count h. run_refused count s fault h (ap (λ x. step x.current) (sym same) ∙ told.0), told.1 ∙ same)

-- ---- the rest of a run

-- after some steps of a run, some more
pub record IsFurther (s t : Session) (count did : ℕ) : Type 0 where
  pub end : run_end count s ≡ beyond did (run_end (count - did) t)
  pub after : t ≡ after_steps did s

further_steps : (s u t : Session) (did steps : ℕ) → u ≡ after_steps did s → t ≡ after_steps steps u → t ≡ after_steps (did + steps) s
further_steps s u t did steps at then = then ∙ ap (after_steps steps) at ∙ sym (after_steps-add did steps s (step s.current) refl)

pub goes_further : (s u t : Session) (count did : ℕ) (r : Stretch) → r.why ≡ None → did + r.steps ≤ count → IsFurther s u count did
    → RunsTo u (Ok r) t → IsFurther s t count (did + r.steps)
goes_further s u t count did r none within before told =
    let rest = run_end (count - did - r.steps) t in
    let less : count - did - r.steps ≡ count - (did + r.steps) = omega arith in
    let z : did + (r.steps + rest.did) ≡ did + r.steps + rest.did = omega arith in
    record {
      end = before.end ∙ ap (beyond did) (told.2 (count - did) (omega arith)) ∙ ap (λ w. beyond did (end_after r.steps w rest)) none
          ∙ (λ i. record { did = z i; why = rest.why })
          ∙ ap (λ k. beyond (did + r.steps) (run_end k t)) less;
      after = further_steps s u t did r.steps before.after told.1;
    }

pub stops_further : (s u t : Session) (count did : ℕ) (r : Stretch) (why : Why) → r.why ≡ Some why → did + r.steps ≤ count → IsFurther s u count did
    → RunsTo u (Ok r) t
    → (end_at (did + r.steps) why ≡ run_end count s) × (t ≡ after_steps (did + r.steps) s)
stops_further s u t count did r why some within before told =
    let rest = run_end (count - did - r.steps) t in (
      sym (before.end ∙ ap (beyond did) (told.2 (count - did) (omega arith)) ∙ ap (λ w. beyond did (end_after r.steps w rest)) some),
      further_steps s u
          t did r.steps before.after told.1,
    )
