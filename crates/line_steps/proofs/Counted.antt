-- Numbers that have a property: whether there is one, and which is the first.
use Rattle.std.proofs.Common.{◌≡◌, ℕ, zero, suc, ◌+◌, ◌<◌, ◌≤◌, Bool, true, false, cond, Option, Some, None, refl, ap, sym, ◌∙◌, arith, inl, inr}
use Rattle.std.specs.Prelude.{◌||◌, unwrap_or}
use Rattle.std.specs.Option.{option_or}
use Rattle.std.proofs.lemmas.Bool.{cases_lt, cases_Bool, or_cases}
use Rattle.std.proofs.lemmas.Bool.Decides.{eqb_tells}
use Rattle.line_steps.specs.Numbers.{any_below, first_or_last, first_to}

-- ---- one below n

or_left : (x y : Bool) → x ≡ true → (x || y) ≡ true
or_left true y h = refl
or_left false y h = cc

or_right : (x y : Bool) → y ≡ true → (x || y) ≡ true
or_right true y h = refl
or_right false y h = h

or_neither : (x y : Bool) → x ≡ false → y ≡ false → (x || y) ≡ false
or_neither true y h k = h
or_neither false y h k = k

pub any_some : (n : ℕ) (has : ℕ → Bool) (k : ℕ) → k < n → has k ≡ true → any_below n has ≡ true
unfolding any_below
any_some zero has k below h = absurd (omega (arith, below))
any_some (suc n) has k below h = elim (cases_lt k n) [
  | inl less ↦ or_left (any_below n has) (has n) (any_some n has k less h)
  | inr most ↦
      let same : n ≡ k = omega (arith, below, most) in
      or_right (any_below n has) (has n) (ap has same ∙ h)
]

pub any_none : (n : ℕ) (has : ℕ → Bool) → ((k : ℕ) → k < n → has k ≡ false) → any_below n has ≡ false
unfolding any_below
any_none zero has h = refl
any_none (suc n) has h = or_neither (any_below n has) (has n)
    (any_none n has (λ k below. h k (omega (arith, below)))) (h n (omega arith))

pub any_gives : (n : ℕ) (has : ℕ → Bool) → any_below n has ≡ true → (k : ℕ) × (k < n) × (has k ≡ true)
unfolding any_below
any_gives zero has h = cc
any_gives (suc n) has h = elim (or_cases (any_below n has) (has n) h) [
  | inl before ↦ let found = any_gives n has before in (found.0, omega (arith, found.1), found.2)
  | inr here ↦ (n, omega arith, here)
]

pub any_at : (n : ℕ) (has : ℕ → Bool) (k : ℕ) → any_below n has ≡ false → k < n → has k ≡ false
any_at n has k none below = elim (cases_Bool (has k)) [
  | inl is ↦ let some : any_below n has ≡ true = any_some n has k below is in cc
  | inr is ↦ is
]

-- ---- the first

-- none of the numbers from 1 to another has it
abbrev pub NoneTo : (ℕ → Bool) → ℕ → Type 0
NoneTo has n = (k : ℕ) → 0 < k → k ≤ n → has k ≡ false

pub none_yet : (has : ℕ → Bool) → NoneTo has 0
none_yet has k some within = absurd (omega (arith, some, within))

pub none_more : (has : ℕ → Bool) (n : ℕ) → NoneTo has n → has (n + 1) ≡ false → NoneTo has (n + 1)
none_more has n none here k some within = elim (eqb_tells k (n + 1)) [
  | inl same ↦ ap has same.1 ∙ here
  | inr other ↦ none k some (omega (arith, within, other.1))
]

pub record IsFound (has : ℕ → Bool) (n m : ℕ) : Type 0 where
  pub is : has m ≡ true
  pub some : 0 < m
  pub within : m ≤ n

found_by : (has : ℕ → Bool) (n m : ℕ) (before : Option ℕ) (here : Bool) → ((x : ℕ) → before ≡ Some x → IsFound has n x)
    → has (suc n) ≡ here → option_or before (cond here (Some (suc n)) None) ≡ Some m → IsFound has (suc n) m
found_by has n m (Some x) here is at h =
    let same : x ≡ m = cc in
    let found = is m (ap Some same) in
    record { is = found.is; some = found.some; within = omega (arith, found.within) }
found_by has n m None true is at h =
    let same : suc n ≡ m = cc in
    record { is = ap has (sym same) ∙ at; some = omega (arith, same); within = omega (arith, same) }
found_by has n m None false is at h = cc

pub first_has : (n : ℕ) (has : ℕ → Bool) (m : ℕ) → first_to n has ≡ Some m → IsFound has n m
unfolding first_to
first_has zero has m h = cc
first_has (suc n) has m h = found_by has n m (first_to n has) (has (suc n)) (λ x is. first_has n has x is) refl h

none_by : (before : Option ℕ) (here : Bool) (n : ℕ) → before ≡ None → here ≡ false → option_or before (cond here (Some n) None) ≡ None
none_by None false n h k = refl
none_by None true n h k = cc
none_by (Some x) here n h k = cc

pub first_none : (n : ℕ) (has : ℕ → Bool) → NoneTo has n → first_to n has ≡ None
unfolding first_to
first_none zero has none = refl
first_none (suc n) has none =
    none_by (first_to n has) (has (suc n)) (suc n) (first_none n has (λ k some within. none k some (omega (arith, within))))
    (none (suc n) (omega arith) (omega arith))

at_by : (before : Option ℕ) (here : Bool) (n : ℕ) → before ≡ None → here ≡ true → option_or before (cond here (Some n) None) ≡ Some n
at_by None true n h k = refl
at_by None false n h k = cc
at_by (Some x) here n h k = cc

before_by : (before : Option ℕ) (here : Bool) (m n : ℕ) → before ≡ Some m → option_or before (cond here (Some n) None) ≡ Some m
before_by (Some x) here m n h = h
before_by None here m n h = cc

pub first_at : (n : ℕ) (has : ℕ → Bool) (k : ℕ) → NoneTo has k → has (suc k) ≡ true → suc k ≤ n → first_to n has ≡ Some (suc k)
unfolding first_to
first_at zero has k none here within = absurd (omega (arith, within))
first_at (suc n) has k none here within = elim (cases_lt k n) [
  | inl less ↦ before_by (first_to n has) (has (suc n)) (suc k) (suc n) (first_at n has k none here (omega (arith, less)))
  | inr most ↦
      let same : k ≡ n = omega (arith, within, most) in
      let none_here : NoneTo has n = λ j some below. none j some (omega (arith, below, same)) in
      at_by (first_to n has) (has (suc n)) (suc n) (first_none n has none_here) (ap (λ j. has (suc j)) (sym same) ∙ here)
      ∙ ap (λ j. Some (suc j)) (sym same)
]

-- it is the next one, if that has it
pub first_next : (n : ℕ) (has : ℕ → Bool) (k : ℕ) → NoneTo has k → has (k + 1) ≡ true → k < n → k + 1 ≡ first_or_last n has
first_next n has k none here within =
    let more : suc k ≡ k + 1 = omega arith in
    sym more ∙ sym (ap (λ (f : Option ℕ). unwrap_or f n) (first_at n has k none (ap has more ∙ here) (omega (arith, within))))

-- it is beyond those that do not have it
beyond_by : (n k : ℕ) (has : ℕ → Bool) (found : Option ℕ) → first_to n has ≡ found → NoneTo has k → k < n → k < unwrap_or found n
beyond_by n k has None h none within = within
beyond_by n k has (Some m) h none within =
    let at = first_has n has m h in
    elim (cases_lt k m) [
      | inl less ↦ less
      | inr most ↦ let no : has m ≡ false = none m at.some most in let is = at.is in cc
    ]

pub first_beyond : (n : ℕ) (has : ℕ → Bool) (k : ℕ) → NoneTo has k → k < n → k < first_or_last n has
first_beyond n has k none within = beyond_by n k has (first_to n has) refl none within

-- it is the last, if none has it
pub first_last : (n : ℕ) (has : ℕ → Bool) → NoneTo has n → n ≡ first_or_last n has
first_last n has none = sym (ap (λ (f : Option ℕ). unwrap_or f n) (first_none n has none))
