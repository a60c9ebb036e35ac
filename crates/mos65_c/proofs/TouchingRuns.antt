-- Runs to a marked address, step by step.
use Rattle.std.proofs.Common.{◌≡◌, ℕ, ◌+◌, suc, Bool, true, false, cond, List, sym, ap, ◌∙◌, arith}
use Rattle.model.specs.Session.{Session}
use Rattle.model.specs.Run.{run_end, after_run, after_steps}
use Rattle.model.specs.declared.event.EventFault.{EventFault}
use Rattle.model.specs.declared.run_end.RunEnd.{RunEnd}
use Rattle.model.specs.declared.run_end.Why.{Why}
use Rattle.model.specs.declared.run_end.Why.TheVariants.{Limit, Break, Watch, Refused}
use Rattle.mos65_c.specs.Touching.{Arrival, ended, ended_or, later, touches, touching_run}

later-more : (j : ℕ) (a : Arrival) → later j (later 1 a) ≡ later (j + 1) a
later-more j a =
    let sum : j + (1 + a.0.did) ≡ (j + 1) + a.0.did = omega arith in
    λ i. (record { did = sum i; why = a.0.why }, a.1)

later-ended : (j k l : ℕ) (w : Why) (s : Session) → j + k ≡ l → later j (ended k w s) ≡ ended l w s
later-ended j k l w s sum = λ i. ended (sum i) w s

-- ---- by the first step

first : (marks : List ℕ) (n : ℕ) (s : Session) (b : Bool) → b ≡ touches marks s.current
    → touching_run marks (suc n) s ≡ cond b (ended 0 Limit s)
    (ended_or (run_end 1 s).why (after_run 1 s) (touching_run marks n (after_run 1 s)))
unfolding touching_run
first marks n s b is = λ i. cond (sym is i) (ended 0 Limit s)
    (ended_or (run_end 1 s).why (after_run 1 s) (touching_run marks n (after_run 1 s)))

pub touching-ends : (marks : List ℕ) (left n did : ℕ) (s : Session) (b : Bool) (whole : Arrival)
    → whole ≡ later did (touching_run marks left s) → left ≡ suc n → b ≡ touches marks s.current
    → b ≡ true → whole ≡ ended did Limit s
touching-ends marks left n did s b whole h more is met =
    h ∙ ap (λ j. later did (touching_run marks j s)) more
    ∙ ap (later did) (first marks n s b is
    ∙ ap (λ x. cond x (ended 0 Limit s) (ended_or (run_end 1 s).why (after_run 1 s) (touching_run marks n (after_run 1 s)))) met)
    ∙ later-ended did 0 did Limit s (omega arith)

-- A step that touches nothing marked, after which the run is as it is told.
pub touching-steps : (marks : List ℕ) (left n did : ℕ) (s t : Session) (r : RunEnd) (b : Bool)
    (whole : Arrival) → whole ≡ later did (touching_run marks left s) → left ≡ suc n
    → b ≡ touches marks s.current → b ≡ false → r ≡ run_end 1 s → t ≡ after_steps r.did s
    → whole ≡ later did (ended_or r.why t (touching_run marks n t))
touching-steps marks left n did s t r b whole h more is unmet end after =
    let there : after_run 1 s ≡ t = ap (λ e. after_steps e.did s) (sym end) ∙ sym after in
    h ∙ ap (λ j. later did (touching_run marks j s)) more
    ∙ ap (later did) (first marks n s b is
    ∙ ap (λ x. cond x (ended 0 Limit s) (ended_or (run_end 1 s).why (after_run 1 s) (touching_run marks n (after_run 1 s)))) unmet
    ∙ (λ i. ended_or (sym end i).why (there i) (touching_run marks n (there i))))

pub touching-goes : (marks : List ℕ) (n did : ℕ) (t : Session) (w : Why) (whole : Arrival)
    → whole ≡ later did (ended_or w t (touching_run marks n t)) → w ≡ Limit
    → whole ≡ later (did + 1) (touching_run marks n t)
touching-goes marks n did t w whole h is =
    h ∙ ap (λ x. later did (ended_or x t (touching_run marks n t))) is ∙ later-more did (touching_run marks n t)

pub touching-refused : (did : ℕ) (t : Session) (w : Why) (fault : EventFault) (rest whole : Arrival)
    → whole ≡ later did (ended_or w t rest) → w ≡ Refused fault → whole ≡ ended did w t
touching-refused did t w fault rest whole h is =
    h ∙ ap (λ x. later did (ended_or x t rest)) is
    ∙ later-ended did 0 did (Refused fault) t (omega arith) ∙ ap (λ x. ended did x t) (sym is)

pub touching-breaks : (did at : ℕ) (t : Session) (w : Why) (rest whole : Arrival)
    → whole ≡ later did (ended_or w t rest) → w ≡ Break at → whole ≡ ended (did + 1) w t
touching-breaks did at t w rest whole h is =
    h ∙ ap (λ x. later did (ended_or x t rest)) is ∙ ap (λ x. ended (did + 1) x t) (sym is)

pub touching-watches : (did at : ℕ) (t : Session) (w : Why) (rest whole : Arrival)
    → whole ≡ later did (ended_or w t rest) → w ≡ Watch at → whole ≡ ended (did + 1) w t
touching-watches did at t w rest whole h is =
    h ∙ ap (λ x. later did (ended_or x t rest)) is ∙ ap (λ x. ended (did + 1) x t) (sym is)

pub touching-over : (marks : List ℕ) (left did limit : ℕ) (s : Session) (whole : Arrival)
    → whole ≡ later did (touching_run marks left s) → left ≡ 0 → did ≡ limit
    → whole ≡ ended limit Limit s
unfolding touching_run
touching-over marks left did limit s whole h none all =
    h ∙ ap (λ j. later did (touching_run marks j s)) none
    ∙ later-ended did 0 limit Limit s (let sum : did + 0 ≡ did = omega arith in sum ∙ all)
