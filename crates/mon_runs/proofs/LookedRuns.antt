-- Runs of single steps, step by step.
use Rattle.std.proofs.Common.{◌≡◌, ℕ, ◌+◌, ◌-◌, zero, suc, refl, Bool, true, false, cond, List, Option, Some, None, sym, ap, ◌∙◌, arith}
use Rattle.model.specs.Step.{step}
use Rattle.model.specs.Session.{Session}
use Rattle.model.specs.Run.{run_end, after_steps}
use Rattle.law_sessions.proofs.Runs.{after_steps-add, after_steps-zero}
use Rattle.mon_runs.specs.Looked.{Arrival, LookedRunsAreSteps, Place, after_stretch, ended_or, later, looked_run, pushed_at, pushed_to, why_of_step}
use Rattle.mon_runs.specs.declared.ended.EndWhy.{EndWhy}
use Rattle.mon_runs.specs.declared.ended.EndWhy.TheVariants as end_why
use Rattle.mon_runs.specs.declared.looked.Goal.{Goal}
use Rattle.mon_runs.specs.Stops.{Read, Write, has_access}
use Rattle.mon_runs.specs.declared.breaks.Break.{Break}
use Rattle.mon_runs.specs.declared.watches.Watch.{Watch}

-- An arrival so many steps later.
pub later-none : (a : Arrival) → a ≡ later 0 a
later-none a =
    let sum : a.0.did ≡ 0 + a.0.did = omega arith in
    λ i. (record { did = sum i; why = a.0.why; from = a.0.from }, a.1)

pub looked-begin : (w : List Watch) (g : Goal) (u : Option ℕ) (limit : ℕ) (p : Place)
    → looked_run w g u limit p ≡ later 0 (looked_run w g u (limit - 0) p)
looked-begin w g u limit p =
    let all : limit - 0 ≡ limit = omega arith in
    later-none (looked_run w g u limit p) ∙ ap (λ j. later 0 (looked_run w g u j p)) (sym all)

pub later-more : (j k : ℕ) (a : Arrival) → later j (later k a) ≡ later (j + k) a
later-more j k a =
    let sum : j + (k + a.0.did) ≡ (j + k) + a.0.did = omega arith in
    λ i. (record { did = sum i; why = a.0.why; from = a.0.from }, a.1)

-- ---- by the first step

first : (w : List Watch) (g : Goal) (u : Option ℕ) (n d f : ℕ) (p q : Place) (y : Option EndWhy)
    → d ≡ (run_end 1 p.0).did → f ≡ p.0.current.regs.pc → y ≡ why_of_step w g u p
    → q ≡ after_stretch u 1 p
    → looked_run w g u (suc n) p ≡ ended_or y d (Some f) q (looked_run w g u n q)
unfolding looked_run
first w g u n d f p q y did from why after
    = λ i. ended_or (sym why i) (sym did i) (Some (sym from i)) (sym after i) (looked_run w g u n (sym after i))

pub looked-ends : (w : List Watch) (g : Goal) (u : Option ℕ) (left n did d f : ℕ) (p q : Place)
    (why : EndWhy) (y : Option EndWhy) (whole : Arrival)
    → whole ≡ later did (looked_run w g u left p) → left ≡ suc n
    → d ≡ (run_end 1 p.0).did → f ≡ p.0.current.regs.pc → y ≡ why_of_step w g u p
    → q ≡ after_stretch u 1 p
    → y ≡ Some why → whole ≡ (record { did = did + d; why = why; from = Some f }, q)
looked-ends w g u left n did d f p q why y whole h more made from reason after some =
    h ∙ ap (λ j. later did (looked_run w g u j p)) more
    ∙ ap (later did) (first w g u n d f p q y made from reason after
    ∙ ap (λ o. ended_or o d (Some f) q (looked_run w g u n q)) some)

pub looked-goes : (w : List Watch) (g : Goal) (u : Option ℕ) (left n did d f : ℕ) (p q : Place)
    (y : Option EndWhy) (whole : Arrival)
    → whole ≡ later did (looked_run w g u left p) → left ≡ suc n
    → d ≡ (run_end 1 p.0).did → f ≡ p.0.current.regs.pc → y ≡ why_of_step w g u p
    → q ≡ after_stretch u 1 p
    → y ≡ None → whole ≡ later (did + d) (looked_run w g u n q)
looked-goes w g u left n did d f p q y whole h more made from reason after none =
    h ∙ ap (λ j. later did (looked_run w g u j p)) more
    ∙ ap (later did) (first w g u n d f p q y made from reason after
    ∙ ap (λ o. ended_or o d (Some f) q (looked_run w g u n q)) none)
    ∙ later-more did d (looked_run w g u n q)

pub looked-over : (w : List Watch) (g : Goal) (u : Option ℕ) (left did : ℕ) (p : Place)
    (whole : Arrival) → whole ≡ later did (looked_run w g u left p) → left ≡ 0
    → whole ≡ (record { did = did; why = end_why.Many; from = None }, p)
unfolding looked_run
looked-over w g u left did p whole h none =
    let sum : did + 0 ≡ did = omega arith in
    h ∙ ap (λ j. later did (looked_run w g u j p)) none
    ∙ (λ i. (record { did = sum i; why = end_why.Many; from = None }, p))

-- ---- what is pushed

pushed-first : (w : List Watch) (stack depth n a : ℕ) (b : Bool) → a ≡ pushed_to stack depth
    → b ≡ has_access Write a w → pushed_at w stack depth (suc n)
    ≡ cond b (Some a) (pushed_at w stack (depth + 1) n)
unfolding pushed_at
pushed-first w stack depth n a b to has =
    (λ i. cond (has_access Write (sym to i) w) (Some (sym to i)) (pushed_at w stack (depth + 1) n))
    ∙ ap (λ x. cond x (Some a) (pushed_at w stack (depth + 1) n)) (sym has)

pub pushed-ends : (w : List Watch) (stack depth left n a : ℕ) (b : Bool) (whole : Option ℕ)
    → whole ≡ pushed_at w stack depth left → left ≡ suc n → a ≡ pushed_to stack depth
    → b ≡ has_access Write a w → b ≡ true → Some a ≡ whole
pushed-ends w stack depth left n a b whole h more to has met =
    sym (h ∙ ap (pushed_at w stack depth) more ∙ pushed-first w stack depth n a b to has
    ∙ ap (λ x. cond x (Some a) (pushed_at w stack (depth + 1) n)) met)

pub pushed-goes : (w : List Watch) (stack depth left n a : ℕ) (b : Bool) (whole : Option ℕ)
    → whole ≡ pushed_at w stack depth left → left ≡ suc n → a ≡ pushed_to stack depth
    → b ≡ has_access Write a w → b ≡ false → whole ≡ pushed_at w stack (depth + 1) n
pushed-goes w stack depth left n a b whole h more to has unmet =
    h ∙ ap (pushed_at w stack depth) more ∙ pushed-first w stack depth n a b to has
    ∙ ap (λ x. cond x (Some a) (pushed_at w stack (depth + 1) n)) unmet

pub pushed-over : (w : List Watch) (stack depth left : ℕ) (whole : Option ℕ)
    → whole ≡ pushed_at w stack depth left → left ≡ 0 → None ≡ whole
unfolding pushed_at
pushed-over w stack depth left whole h none = sym (h ∙ ap (pushed_at w stack depth) none)

pub pushed-begin : (w : List Watch) (stack pushes : ℕ)
    → pushed_at w stack 0 pushes ≡ pushed_at w stack 0 (pushes - 0)
pushed-begin w stack pushes =
    let all : pushes - 0 ≡ pushes = omega arith in ap (pushed_at w stack 0) (sym all)

-- ---- as many steps lead there

abbrev LeadsFrom : Session → Arrival → Type 0
LeadsFrom s arrival = arrival.1.0 ≡ after_steps arrival.0.did s

ended-leads : (why : Option EndWhy) (k : ℕ) (from : Option ℕ) (s : Session) (breaks : List Break)
    (rest : Arrival) → LeadsFrom (after_steps k s) rest
    → LeadsFrom s (ended_or why k from (after_steps k s, breaks) rest)
ended-leads (Some why) k from s breaks rest h = refl
ended-leads None k from s breaks rest h = h ∙ sym (after_steps-add k rest.0.did s (step s.current) refl)

pub looked_runs_are_steps : LookedRunsAreSteps
unfolding looked_run
looked_runs_are_steps watches goal until zero place = sym (after_steps-zero step place.0)
looked_runs_are_steps watches goal until (suc n) place =
    let next = after_stretch until 1 place in
    let rest : LeadsFrom next.0 (looked_run watches goal until n next) = looked_runs_are_steps watches goal until n next in
    ended-leads (why_of_step watches goal until place) (run_end 1 place.0).did (Some place.0.current.regs.pc) place.0 next.1
    (looked_run watches goal until n next) rest
