-- The way back over a subroutine, event by event.
use Rattle.std.proofs.Common.{◌≡◌, ℕ, ◌+◌, ◌-◌, zero, suc, Bool, true, false, cond, length, refl, sym, ap, ◌∙◌, arith, eqb}
use Rattle.std.proofs.lemmas.Bool.Decides.{nat_tests}
use Rattle.model.specs.Session.{Session}
use Rattle.model.specs.Back.{without_last}
use Rattle.mon_runs.specs.Recall.{one_more}
use Rattle.mon_runs.specs.Back.{back_over, gone_over, is_call, was_return}
use Rattle.mon_runs.specs.Runs.{gone_back}

-- So many events more before an outcome.
abbrev pub sooner : ℕ → ℕ × Session → ℕ × Session
sooner k undone = (k + undone.0, undone.1)

first : (stack n : ℕ) (s t : Session) (b : Bool) → t ≡ without_last 1 s
    → b ≡ is_call stack t.current → gone_over stack (suc n) s
    ≡ cond b (1, t) (one_more (gone_over stack n t))
unfolding gone_over
first stack n s t b back is =
    (λ i. cond (is_call stack (sym back i).current) (1, sym back i) (one_more (gone_over stack n (sym back i))))
    ∙ ap (λ x. cond x (1, t) (one_more (gone_over stack n t))) (sym is)

pub over-ends : (stack undone left n : ℕ) (s t : Session) (b : Bool) (whole : ℕ × Session)
    → whole ≡ sooner undone (gone_over stack left s) → left ≡ suc n
    → t ≡ without_last 1 s → b ≡ is_call stack t.current → b ≡ true
    → whole ≡ (undone + 1, t)
over-ends stack undone left n s t b whole h more back is met =
    h ∙ ap (λ j. sooner undone (gone_over stack j s)) more
    ∙ ap (sooner undone) (first stack n s t b back is
    ∙ ap (λ x. cond x (1, t) (one_more (gone_over stack n t))) met)

pub over-goes : (stack undone left n : ℕ) (s t : Session) (b : Bool) (whole : ℕ × Session)
    → whole ≡ sooner undone (gone_over stack left s) → left ≡ suc n
    → t ≡ without_last 1 s → b ≡ is_call stack t.current → b ≡ false
    → whole ≡ sooner (undone + 1) (gone_over stack n t)
over-goes stack undone left n s t b whole h more back is unmet =
    let rest = gone_over stack n t in
    let sum : undone + suc rest.0 ≡ (undone + 1) + rest.0 = omega arith in
    h ∙ ap (λ j. sooner undone (gone_over stack j s)) more
    ∙ ap (sooner undone) (first stack n s t b back is
    ∙ ap (λ x. cond x (1, t) (one_more rest)) unmet)
    ∙ (λ i. (sum i, rest.1))

pub over-over : (stack undone left : ℕ) (s : Session) (whole : ℕ × Session)
    → whole ≡ sooner undone (gone_over stack left s) → left ≡ 0
    → whole ≡ (undone, s)
unfolding gone_over
over-over stack undone left s whole h none =
    let sum : undone + 0 ≡ undone = omega arith in
    h ∙ ap (λ j. sooner undone (gone_over stack j s)) none ∙ (λ i. (sum i, s))

pub over-begin : (stack most : ℕ) (s : Session)
    → gone_over stack most s ≡ sooner 0 (gone_over stack (most - 0) s)
over-begin stack most s =
    let all : most - 0 ≡ most = omega arith in
    let undone = gone_over stack most s in
    let sum : undone.0 ≡ 0 + undone.0 = omega arith in
    (λ i. (sum i, undone.1)) ∙ ap (λ j. sooner 0 (gone_over stack j s)) (sym all)

-- ---- the whole way

-- What comes after the first event.
abbrev after_first : ℕ → Bool → ℕ → Session → ℕ × Session
after_first stack returned most t = cond returned (one_more (gone_over stack most t)) (1, t)

abbrev way : ℕ → ℕ → Bool → Session → Session → ℕ × Session
way stack held returned s t = cond (eqb held 0) (0, s) (after_first stack returned (held - 1) t)

whole : (stack held : ℕ) (s t : Session) (b : Bool) → stack ≡ s.current.regs.s
    → held ≡ length s.earlier → t ≡ without_last 1 s → b ≡ was_return t.current s.current
    → back_over s ≡ way stack held b s t
unfolding back_over
whole stack held s t b same all back is =
    (λ i. way (sym same i) (sym all i) (was_return (sym back i).current s.current) s (sym back i))
    ∙ ap (λ x. way stack held x s t) (sym is)

none-eqb : (held : ℕ) → held ≡ 0 → eqb held 0 ≡ true
none-eqb held h = ap (λ j. eqb j 0) h

some-eqb : (held n : ℕ) → held ≡ suc n → eqb held 0 ≡ false
some-eqb held n h = grind (arith, nat_tests)

pub way-none : (s : Session) (held : ℕ) → held ≡ length s.earlier → held ≡ 0
    → back_over s ≡ (0, s)
way-none s held all none =
    whole s.current.regs.s held s (without_last 1 s) (was_return (without_last 1 s).current s.current) refl all refl refl
    ∙ ap (λ x. cond x (0, s) (after_first s.current.regs.s (was_return (without_last 1 s).current s.current) (held - 1) (without_last 1 s)))
    (none-eqb held none)

pub way-one : (stack held n : ℕ) (s t : Session) (b : Bool) → stack ≡ s.current.regs.s
    → held ≡ length s.earlier → held ≡ suc n → t ≡ without_last 1 s
    → b ≡ was_return t.current s.current → b ≡ false → back_over s ≡ (1, t)
way-one stack held n s t b same all some back is unmet =
    whole stack held s t b same all back is
    ∙ ap (λ x. cond x (0, s) (after_first stack b (held - 1) t)) (some-eqb held n some)
    ∙ ap (λ x. after_first stack x (held - 1) t) unmet

pub way-on : (stack held n k : ℕ) (s t u : Session) (b : Bool) → stack ≡ s.current.regs.s
    → held ≡ length s.earlier → held ≡ suc n → t ≡ without_last 1 s
    → b ≡ was_return t.current s.current → b ≡ true
    → gone_over stack (held - 1) t ≡ (k, u) → back_over s ≡ (k + 1, u)
way-on stack held n k s t u b same all some back is met rest =
    let more : suc k ≡ k + 1 = omega arith in
    whole stack held s t b same all back is
    ∙ ap (λ x. cond x (0, s) (after_first stack b (held - 1) t)) (some-eqb held n some)
    ∙ ap (λ x. after_first stack x (held - 1) t) met
    ∙ ap one_more rest ∙ (λ i. (more i, u))

-- ---- events undone one by one

pub gone-first : (k : ℕ) (s : Session) → gone_back k (without_last 1 s) ≡ gone_back (suc k) s
unfolding gone_back
gone-first zero s = refl
gone-first (suc k) s = ap (without_last 1) (gone-first k s)
