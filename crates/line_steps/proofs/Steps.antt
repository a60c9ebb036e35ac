-- A run by its first step, and by the steps after those that did not end it.
use Rattle.std.proofs.Common.{◌≡◌, ℕ, ◌+◌, ◌-◌, ◌<◌, ◌≤◌, zero, suc, Bool, true, false, cond, Option, Some, None, Result, Ok, Err, refl, sym, ap, ◌∙◌, subst, arith}
use Rattle.std.specs.Prelude.{nat_eq}
use Rattle.std.specs.List.{list_any}
use Rattle.std.specs.Option.{option_map, option_or}
use Rattle.model.specs.State.{State}
use Rattle.model.specs.Step.{step}
use Rattle.model.specs.Session.{Session, with_state}
use Rattle.model.specs.declared.event.EventFault.{EventFault}
use Rattle.model.specs.declared.run_end.Why.{Why}
use Rattle.model.specs.declared.run_end.Why.TheVariants.{Break, Limit, Watch}
use Rattle.model.specs.declared.run_end.RunEnd.{RunEnd}
use Rattle.model.specs.Run.{after_steps, break_met, changed_addresses, lowest, one_later, run_end, stop_of, watch_met}
use Rattle.debugger.specs.Running.{beyond, end_at}
use Rattle.debugger.proofs.Runs.{run_goes, run_none, run_refused, run_stops}
use Rattle.law_sessions.proofs.Runs.{after_steps-add, after_steps-made, after_steps-zero, run_end-zero}
use Rattle.line_steps.specs.Forwards.{is_limit}

-- ---- why a step ends a run

watch_ends : (lowest : Option ℕ) (why : Why) → option_map Watch lowest ≡ Some why → is_limit why ≡ false
watch_ends None why h = cc
watch_ends (Some address) why h = let same : Watch address ≡ why = cc in ap is_limit (sym same)

break_ends : (is : Bool) (pc : ℕ) (why : Why) → cond is (Some (Break pc)) None ≡ Some why → is_limit why ≡ false
break_ends false pc why h = cc
break_ends true pc why h = let same : Break pc ≡ why = cc in ap is_limit (sym same)

first_of : (w b : Option Why) (why : Why) → (w ≡ Some why → is_limit why ≡ false)
    → (b ≡ Some why → is_limit why ≡ false) → option_or w b ≡ Some why → is_limit why ≡ false
first_of (Some x) b why if_w if_b h = if_w h
first_of None b why if_w if_b h = if_b h

stop_ends : (s : Session) (t : State) (why : Why) → stop_of s s.current t ≡ Some why → is_limit why ≡ false
unfolding stop_of watch_met break_met
stop_ends s t why h =
    first_of (watch_met s.watches s.current t) (break_met s.breaks s.current t) why (watch_ends (lowest (changed_addresses s.watches s.current t)) why)
    (break_ends (list_any (nat_eq t.regs.pc) s.breaks) t.regs.pc why) h

-- ---- a run by its first step

made_one : (s : Session) (t : State) → step s.current ≡ Ok t → with_state s t ≡ after_steps 1 s
made_one s t h = sym (after_steps-zero step (with_state s t)) ∙ sym (after_steps-made step zero s t h)

one_on : (s : Session) (t : State) → step s.current ≡ Ok t → None ≡ stop_of s s.current t → run_end 1 s ≡ end_at 1 Limit
one_on s t h none = run_goes 1 s t (omega arith) h none ∙ ap one_later (run_end-zero step (with_state s t))

later_is_beyond : (e : RunEnd) → one_later e ≡ beyond 1 e
later_is_beyond e = let z : suc e.did ≡ 1 + e.did = omega arith in λ i. record { did = z i; why = e.why }

pub made_at_most : (s : Session) (t : State) (why : Option Why) → step s.current ≡ Ok t → why ≡ stop_of s s.current t → (run_end 1 s).did ≡ 1
made_at_most s t None h is = ap (λ (e : RunEnd). e.did) (one_on s t h is)
made_at_most s t (Some why) h is = ap (λ (e : RunEnd). e.did) (run_stops 1 s t why (omega arith) h is)

at_most_by : (s : Session) (r : Result State EventFault) → step s.current ≡ r → (run_end 1 s).did ≤ 1
at_most_by s (Ok t) h = let one : (run_end 1 s).did ≡ 1 = made_at_most s t (stop_of s s.current t) h refl in omega (arith, one)
at_most_by s (Err fault) h = let none : (run_end 1 s).did ≡ 0 = ap (λ (e : RunEnd). e.did) (run_refused 1 s fault (omega arith) h) in omega (arith, none)

pub one_at_most : (s : Session) → (run_end 1 s).did ≤ 1
one_at_most s = at_most_by s (step s.current) refl

-- a step that is refused ends each run
refused_by : (s : Session) (r : Result State EventFault) → step s.current ≡ r → (run_end 1 s).did ≡ 0
    → (n : ℕ) → 0 < n → run_end n s ≡ run_end 1 s
refused_by s (Ok t) h none n some = let one : (run_end 1 s).did ≡ 1 = made_at_most s t (stop_of s s.current t) h refl in absurd (omega (arith, one, none))
refused_by s (Err fault) h none n some = run_refused n s fault some h ∙ sym (run_refused 1 s fault (omega arith) h)

-- a step that meets a watch or a breakpoint ends each run
stopped_by : (s : Session) (t : State) (why : Option Why) → step s.current ≡ Ok t → why ≡ stop_of s s.current t
    → is_limit (run_end 1 s).why ≡ false → (n : ℕ) → 0 < n → run_end n s ≡ run_end 1 s
stopped_by s t None h is other n some =
    let on : is_limit (run_end 1 s).why ≡ true = ap (λ (e : RunEnd). is_limit e.why) (one_on s t h is) in cc
stopped_by s t (Some why) h is other n some = run_stops n s t why some h is ∙ sym (run_stops 1 s t why (omega arith) h is)

ends_by : (s : Session) (r : Result State EventFault) → step s.current ≡ r → is_limit (run_end 1 s).why ≡ false
    → (n : ℕ) → 0 < n → run_end n s ≡ run_end 1 s
ends_by s (Ok t) h other n some = stopped_by s t (stop_of s s.current t) h refl other n some
ends_by s (Err fault) h other n some = run_refused n s fault some h ∙ sym (run_refused 1 s fault (omega arith) h)

-- another step ends none
went_by : (s : Session) (t : State) (why : Option Why) → step s.current ≡ Ok t → why ≡ stop_of s s.current t
    → is_limit (run_end 1 s).why ≡ true → (n : ℕ) → 0 < n
    → run_end n s ≡ beyond 1 (run_end (n - 1) (after_steps 1 s))
went_by s t None h is on n some =
    run_goes n s t some h is ∙ later_is_beyond (run_end (n - 1) (with_state s t))
    ∙ ap (λ (u : Session). beyond 1 (run_end (n - 1) u)) (made_one s t h)
went_by s t (Some why) h is on n some =
    let ended : is_limit (run_end 1 s).why ≡ is_limit why = ap (λ (e : RunEnd). is_limit e.why) (run_stops 1 s t why (omega arith) h is) in
    let no : is_limit why ≡ false = stop_ends s t why (sym is) in
    cc

goes_by : (s : Session) (r : Result State EventFault) → step s.current ≡ r → is_limit (run_end 1 s).why ≡ true
    → (n : ℕ) → 0 < n → run_end n s ≡ beyond 1 (run_end (n - 1) (after_steps 1 s))
goes_by s (Ok t) h on n some = went_by s t (stop_of s s.current t) h refl on n some
goes_by s (Err fault) h on n some =
    let no : is_limit (run_end 1 s).why ≡ false = ap (λ (e : RunEnd). is_limit e.why) (run_refused 1 s fault (omega arith) h) in cc

-- ---- a run after some steps that did not end it

pub record IsOn (s u : Session) (done : ℕ) : Type 0 where
  pub made : u ≡ after_steps done s
  pub end : (n : ℕ) → done ≤ n → run_end n s ≡ beyond done (run_end (n - done) u)

pub on_begin : (s : Session) → IsOn s s 0
on_begin s = record {
  made = sym (after_steps-zero step s);
  end = λ n h.
      let all : n ≡ n - 0 = omega arith in
      let none = run_end (n - 0) s in
      let z : none.did ≡ 0 + none.did = omega arith in
      ap (λ m. run_end m s) all ∙ (λ i. record { did = z i; why = none.why });
}

pub made_more : (s u v : Session) (done did : ℕ) → u ≡ after_steps done s → v ≡ after_steps did u → v ≡ after_steps (done + did) s
made_more s u v done did made h = h ∙ ap (after_steps did) made ∙ sym (after_steps-add done did s (step s.current) refl)

beyond_more : (k : ℕ) (e : RunEnd) → beyond k (beyond 1 e) ≡ beyond (k + 1) e
beyond_more k e = let z : k + (1 + e.did) ≡ (k + 1) + e.did = omega arith in λ i. record { did = z i; why = e.why }

-- one step more, which does not end it either
pub on_more : (s u v : Session) (done : ℕ) (e : RunEnd) → IsOn s u done → e ≡ run_end 1 u → v ≡ after_steps e.did u
    → 0 < e.did → is_limit e.why ≡ true → IsOn s v (done + 1)
on_more s u v done e on is made some limit =
    let most : e.did ≤ 1 = subst (λ (x : RunEnd). x.did ≤ 1) (sym is) (one_at_most u) in
    let one : e.did ≡ 1 = omega (arith, most, some) in
    let next : v ≡ after_steps 1 u = made ∙ ap (λ k. after_steps k u) one in
    let goes : is_limit (run_end 1 u).why ≡ true = ap (λ (x : RunEnd). is_limit x.why) (sym is) ∙ limit in
    record {
      made = made_more s u v done 1 on.made next;
      end = λ n h.
          let before : done ≤ n = omega (arith, h) in
          let left : 0 < n - done = omega (arith, h) in
          let fewer : (n - done) - 1 ≡ n - (done + 1) = omega (arith, h) in
          on.end n before
          ∙ ap (beyond done) (goes_by u (step u.current) refl goes (n - done) left)
          ∙ beyond_more done (run_end ((n - done) - 1) (after_steps 1 u))
          ∙ ap (λ (w : Session). beyond (done + 1) (run_end ((n - done) - 1) w)) (sym next)
          ∙ ap (λ m. beyond (done + 1) (run_end m v)) fewer;
    }

-- ---- how it ends

-- a run of so many steps as were made, the last of them included
pub ends_met : (s u : Session) (done : ℕ) (e : RunEnd) → IsOn s u done → e ≡ run_end 1 u → 0 < e.did
    → end_at (done + 1) e.why ≡ run_end (done + 1) s
ends_met s u done e on is some =
    let most : e.did ≤ 1 = subst (λ (x : RunEnd). x.did ≤ 1) (sym is) (one_at_most u) in
    let one : e.did ≡ 1 = omega (arith, most, some) in
    let before : done ≤ done + 1 = omega arith in
    let left : (done + 1) - done ≡ 1 = omega arith in
    let sum : done + e.did ≡ done + 1 = omega (arith, one) in
    sym (on.end (done + 1) before ∙ ap (λ m. beyond done (run_end m u)) left ∙ ap (beyond done) (sym is)
    ∙ (λ i. record { did = sum i; why = e.why }))

pub ends_stopped : (s u : Session) (done limit : ℕ) (e : RunEnd) → IsOn s u done → e ≡ run_end 1 u → done < limit
    → 0 < e.did → is_limit e.why ≡ false → end_at (done + 1) e.why ≡ run_end limit s
ends_stopped s u done limit e on is within some other =
    let most : e.did ≤ 1 = subst (λ (x : RunEnd). x.did ≤ 1) (sym is) (one_at_most u) in
    let one : e.did ≡ 1 = omega (arith, most, some) in
    let before : done ≤ limit = omega (arith, within) in
    let left : 0 < limit - done = omega (arith, within) in
    let sum : done + e.did ≡ done + 1 = omega (arith, one) in
    let ended : is_limit (run_end 1 u).why ≡ false = ap (λ (x : RunEnd). is_limit x.why) (sym is) ∙ other in
    sym (on.end limit before ∙ ap (beyond done) (ends_by u (step u.current) refl ended (limit - done) left ∙ sym is)
    ∙ (λ i. record { did = sum i; why = e.why }))

pub ends_refused : (s u : Session) (done limit : ℕ) (e : RunEnd) → IsOn s u done → e ≡ run_end 1 u → done < limit
    → e.did ≡ 0 → end_at done e.why ≡ run_end limit s
ends_refused s u done limit e on is within none =
    let before : done ≤ limit = omega (arith, within) in
    let left : 0 < limit - done = omega (arith, within) in
    let sum : done + e.did ≡ done = omega (arith, none) in
    let no : (run_end 1 u).did ≡ 0 = ap (λ (x : RunEnd). x.did) (sym is) ∙ none in
    sym (on.end limit before ∙ ap (beyond done) (refused_by u (step u.current) refl no (limit - done) left ∙ sym is)
    ∙ (λ i. record { did = sum i; why = e.why }))

pub ends_all : (s u : Session) (done limit : ℕ) → IsOn s u done → done ≡ limit → end_at limit Limit ≡ run_end limit s
ends_all s u done limit on all =
    let before : done ≤ limit = omega (arith, all) in
    let none : limit - done ≡ 0 = omega (arith, all) in
    let sum : done + 0 ≡ limit = omega (arith, all) in
    sym (on.end limit before ∙ ap (beyond done) (run_none (limit - done) u none) ∙ (λ i. record { did = sum i; why = Limit }))

-- a step that is refused leads nowhere
pub made_none : (s u v : Session) (done : ℕ) (e : RunEnd) → IsOn s u done → v ≡ after_steps e.did u → e.did ≡ 0
    → v ≡ after_steps done s
made_none s u v done e on made none = made ∙ ap (λ k. after_steps k u) none ∙ after_steps-zero step u ∙ on.made

pub made_next : (s u v : Session) (done : ℕ) (e : RunEnd) → IsOn s u done → e ≡ run_end 1 u → v ≡ after_steps e.did u
    → 0 < e.did → v ≡ after_steps (done + 1) s
made_next s u v done e on is made some =
    let most : e.did ≤ 1 = subst (λ (x : RunEnd). x.did ≤ 1) (sym is) (one_at_most u) in
    let one : e.did ≡ 1 = omega (arith, most, some) in
    made_more s u v done 1 on.made (made ∙ ap (λ k. after_steps k u) one)
