-- Steps one by one.
use Rattle.std.proofs.Common.{◌≡◌, ℕ, ◌-◌, suc, Bool, true, false, cond, List, refl, sym, ap, ◌∙◌, arith}
use Rattle.mon_steps.specs.RunLines.{KeepsWatches, Stand, goes_on, ran, stepped}
use Rattle.mon_session.specs.declared.mon_state.MonState.{MonState}
use Rattle.mon_runs.specs.declared.watches.Watch.{Watch}

first : (n : ℕ) (w : List Watch) (s t : Stand) (b : Bool) → t ≡ ran 1 w s → b ≡ goes_on w s
    → stepped (suc n) w s ≡ cond b (stepped n w t) t
unfolding stepped
first n w s t b made on = λ i. cond (sym on i) (stepped n w (sym made i)) (sym made i)

-- the last step of those left
pub steps-end : (left n : ℕ) (w : List Watch) (s t whole : Stand) (b : Bool)
    → whole ≡ stepped left w s → left ≡ suc n → t ≡ ran 1 w s → b ≡ goes_on w s → b ≡ false
    → t ≡ whole
steps-end left n w s t whole b h more made on unmet =
    sym (h ∙ ap (λ j. stepped j w s) more ∙ first n w s t b made on
    ∙ ap (λ x. cond x (stepped n w t) t) unmet)

-- one step of those left, after which they go on
pub steps-go : (left n : ℕ) (w : List Watch) (s t whole : Stand) (b : Bool)
    → whole ≡ stepped left w s → left ≡ suc n → t ≡ ran 1 w s → b ≡ goes_on w s → b ≡ true
    → whole ≡ stepped n w t
steps-go left n w s t whole b h more made on met =
    h ∙ ap (λ j. stepped j w s) more ∙ first n w s t b made on
    ∙ ap (λ x. cond x (stepped n w t) t) met

-- all left
pub steps-begin : (count : ℕ) (w : List Watch) (s : Stand)
    → stepped count w s ≡ stepped (count - 0) w s
steps-begin count w s =
    let all : count - 0 ≡ count = omega arith in ap (λ j. stepped j w s) (sym all)

-- none left
pub steps-over : (left : ℕ) (w : List Watch) (s whole : Stand) → whole ≡ stepped left w s
    → left ≡ 0 → s ≡ whole
unfolding stepped
steps-over left w s whole h none = sym (h ∙ ap (λ j. stepped j w s) none)

pub kept-none : (a : MonState) → KeepsWatches a a
kept-none a = (refl, refl, refl, refl)

pub kept-then : (a b c : MonState) → KeepsWatches a b → KeepsWatches b c → KeepsWatches a c
kept-then a b c p q = (q.0 ∙ p.0, q.1 ∙ p.1, q.2 ∙ p.2, q.3 ∙ p.3)
