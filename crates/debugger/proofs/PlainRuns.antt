-- Plain steps, as a session and as a trail see them.
use Rattle.std.proofs.Common.{◌≡◌, ◌∙◌, ℕ, ◌+◌, ◌-◌, ◌<◌, ◌≤◌, zero, suc, List, [], Bool, true, false, true≢false, not, Ok, refl, sym, ap, subst, arith}
use Rattle.model.specs.State.{State}
use Rattle.model.specs.Step.{step}
use Rattle.model.specs.Session.{Session, with_state}
use Rattle.model.specs.Run.{after_steps}
use Rattle.cpu.specs.PlainRuns.{AllPlain, AllPlainButLast, IsPlainStep, RanPlainly}
use Rattle.cpu.specs.Running.{IsStep}
use Rattle.cpu.specs.declared.machine.plain_running.PlainRun.{PlainRun}
use Rattle.law_sessions.proofs.Runs.{after_steps-add, after_steps-zero}
use Rattle.debugger.proofs.Runs.{step_after}
use Rattle.debugger.proofs.Stretches.{AllSteps}

pub goes_on : (stopped : Bool) → not stopped ≡ true → stopped ≡ false
goes_on true is = absurd (true≢false (sym is))
goes_on false is = refl

-- where nothing is watched
plain_step : (marks : List ℕ) (s t : State) → IsPlainStep marks s t → IsStep [] s t
plain_step marks s t is = record { made = is.made; kept = λ k watched. absurd (watched refl); rest = is.rest }

plain_steps : (stops marks : List ℕ) (n : ℕ) (s t : State) → AllPlain stops marks n s t → AllSteps [] n s t
plain_steps stops marks zero s t all = all
plain_steps stops marks (suc n) s t all = (all.0, plain_steps stops marks n s all.0 all.1, plain_step marks all.0 t all.2.step)

plain_steps_last : (stops marks : List ℕ) (n from : ℕ) (s t : State) → 0 < n → AllPlainButLast stops marks n from s t → AllSteps [] n s t
plain_steps_last stops marks zero from s t some all = absurd (omega arith)
plain_steps_last stops marks (suc n) from s t some all =
    let less : suc n - 1 ≡ n = omega arith in
    (all.0, plain_steps stops marks n s all.0 (subst (λ k. AllPlain stops marks k s all.0) less all.1), plain_step marks all.0 t all.2)

made_by : (stops marks : List ℕ) (stopped : Bool) (n from : ℕ) (s t : State) → (stopped ≡ false → AllPlain stops marks n s t)
    → (0 < n → AllPlainButLast stops marks n from s t) → (stopped ≡ true → 0 < n) → AllSteps [] n s t
made_by stops marks true n from s t on last some = plain_steps_last stops marks n from s t (some refl) (last (some refl))
made_by stops marks false n from s t on last some = plain_steps stops marks n s t (on refl)

pub plainly_made : (stops marks : List ℕ) (ran : PlainRun) (s t : State) → RanPlainly stops marks ran s t → AllSteps [] ran.steps s t
plainly_made stops marks ran s t told = made_by stops marks ran.stopped ran.steps ran.from s t told.on told.last told.some

-- ---- the session

pub after_none : (k : ℕ) (s : Session) → k ≡ 0 → s ≡ after_steps k s
after_none k s none = sym (ap (λ n. after_steps n s) none ∙ after_steps-zero step s)

pub after_one : (k : ℕ) (s : Session) (t : State) → step s.current ≡ Ok t → 0 < k → k ≤ 1 → with_state s t ≡ after_steps k s
after_one k s t made some one =
    let is : 0 + 1 ≡ k = omega arith in
    step_after 0 s s t (after_none 0 s refl) made ∙ ap (λ n. after_steps n s) is

pub after_both : (did steps : ℕ) (s u t : Session) → u ≡ after_steps did s → t ≡ after_steps steps u → t ≡ after_steps (did + steps) s
after_both did steps s u t at then = then ∙ ap (after_steps steps) at ∙ sym (after_steps-add did steps s (step s.current) refl)

-- no step more
pub after_no_more : (steps : ℕ) (u t : Session) → t ≡ after_steps steps u → steps ≡ 0 → t ≡ u
after_no_more steps u t then none = then ∙ sym (after_none steps u none)

-- ---- for callers: the session along a plain run

-- the session after one step more
pub session_next : (n : ℕ) (s : Session) (m t : State) → (after_steps n s).current ≡ m → step m ≡ Ok t → with_state (after_steps n s) t ≡ after_steps (suc n) s
session_next n s m t here made =
    let count : n + 1 ≡ suc n = omega arith in
    step_after n s (after_steps n s) t refl (subst (λ (x : State). step x ≡ Ok t) (sym here) made) ∙ ap (λ k. after_steps k s) count

-- its current state is the one that the plain steps lead to
pub session_at : (stops marks : List ℕ) (n : ℕ) (s : Session) (t : State) → AllPlain stops marks n s.current t → (after_steps n s).current ≡ t
session_at stops marks zero s t all = ap (λ (u : Session). u.current) (after_steps-zero step s) ∙ sym all
session_at stops marks (suc n) s t all =
    let here = session_at stops marks n s all.0 all.1 in
    ap (λ (u : Session). u.current) (sym (session_next n s all.0 t here all.2.step.made))
