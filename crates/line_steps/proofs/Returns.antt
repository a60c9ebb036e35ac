-- The highest stack pointer that returns have left, event by event.
use Rattle.std.proofs.Common.{◌≡◌, ℕ, suc, ◌+◌, ◌<◌, ◌≤◌, max, Bool, true, false, refl, ap, sym, subst, ◌∙◌, arith, inl, inr}
use Rattle.std.specs.Prelude.{◌&&◌, nat_lt}
use Rattle.std.proofs.lemmas.Bool.{cases_lt}
use Rattle.std.proofs.lemmas.Bool.Decides.{nat_tests}
use Rattle.model.specs.Session.{Session}
use Rattle.line_steps.specs.Back.{highest_with, is_left, is_return, stack_back, state_back}
use Rattle.line_steps.proofs.Counted.{any_none, any_some}

-- whether the event that led to the state j back is a return
abbrev pub was_return : Session → ℕ → Bool
was_return s j = is_return (state_back s (suc j)) (state_back s j)

-- one of the last k events is a return that left the stack pointer so high
pub record IsLeft (s : Session) (k highest : ℕ) : Type 0 where
  pub from : ℕ
  pub before : from < k
  pub is : was_return s from ≡ true
  pub at : stack_back s from ≡ highest

-- none of them left it higher than `highest`, and one left it there, or none is a return
pub record IsHighest (s : Session) (k highest : ℕ) : Type 0 where
  pub most : (j : ℕ) → j < k → was_return s j ≡ true → stack_back s j ≤ highest
  pub some : 0 < highest → IsLeft s k highest

pub highest_none : (s : Session) → IsHighest s 0 0
highest_none s = record {
  most = λ j before is. absurd (omega (arith, before));
  some = λ some. absurd (omega (arith, some));
}

left_more : (s : Session) (k highest : ℕ) → IsLeft s k highest → IsLeft s (k + 1) highest
left_more s k highest is = record { from = is.from; before = omega (arith, is.before); is = is.is; at = is.at }

left_here : (s : Session) (k : ℕ) → was_return s k ≡ true → IsLeft s (k + 1) (stack_back s k)
left_here s k is = record { from = k; before = omega arith; is = is; at = refl }

most_more : (s : Session) (k highest more : ℕ) → IsHighest s k highest → highest ≤ more → (was_return s k ≡ true → stack_back s k ≤ more)
    → (j : ℕ) → j < k + 1 → was_return s j ≡ true → stack_back s j ≤ more
most_more s k highest more is above here j before return = elim (cases_lt j k) [
  | inl less ↦ let below : stack_back s j ≤ highest = is.most j less return in omega (arith, below, above)
  | inr most ↦
      let same : j ≡ k = omega (arith, before, most) in
      let there : stack_back s j ≡ stack_back s k = ap (λ (n : ℕ). stack_back s n) same in
      let at : stack_back s k ≤ more = here (ap (λ (n : ℕ). was_return s n) (sym same) ∙ return) in
      omega (arith, there, at)
]

highest_by : (s : Session) (k highest : ℕ) (is : Bool) → IsHighest s k highest → was_return s k ≡ is
    → IsHighest s (k + 1) (highest_with is (stack_back s k) highest)
highest_by s k highest false was h = record {
  most = most_more s k highest highest was (omega arith) (λ is. cc);
  some = λ some. left_more s k highest (was.some some);
}
highest_by s k highest true was h = elim (cases_lt highest (stack_back s k)) [
  | inl less ↦
      let same : max highest (stack_back s k) ≡ stack_back s k = omega (arith, less) in
      record {
        most = most_more s k highest (max highest (stack_back s k)) was (omega arith) (λ is. omega arith);
        some = λ some. subst (IsLeft s (k + 1)) (sym same) (left_here s k h);
      }
  | inr most ↦
      let same : max highest (stack_back s k) ≡ highest = omega (arith, most) in
      record {
        most = most_more s k highest (max highest (stack_back s k)) was (omega arith) (λ is. omega arith);
        some = λ some. subst (IsLeft s (k + 1)) (sym same) (left_more s k highest (was.some (omega (arith, some, same))));
      }
]

pub highest_more : (s : Session) (k highest : ℕ) → IsHighest s k highest
    → IsHighest s (k + 1) (highest_with (is_return (state_back s (k + 1)) (state_back s k)) (stack_back s k) highest)
highest_more s k highest was =
    let more : suc k ≡ k + 1 = omega arith in
    highest_by s k highest (is_return (state_back s (k + 1)) (state_back s k)) was
    (ap (λ (n : ℕ). is_return (state_back s n) (state_back s k)) more)

-- ---- when a state is within a call that has returned

both : (is : Bool) (a b : ℕ) → is ≡ true → a < b → (is && nat_lt a b) ≡ true
both true a b h below = grind (arith, nat_tests)
both false a b h below = cc

not_both : (is : Bool) (a b : ℕ) → (is ≡ true → b ≤ a) → (is && nat_lt a b) ≡ false
not_both false a b h = refl
not_both true a b h = let above : b ≤ a = h refl in grind (arith, nat_tests)

left_by : (s : Session) (k highest : ℕ) (below : Bool) → IsHighest s k highest → nat_lt (stack_back s k) highest ≡ below
    → below ≡ is_left s k
unfolding is_left
left_by s k highest true is h =
    let lower : stack_back s k < highest = grind (arith, nat_tests) in
    let left = is.some (omega (arith, lower)) in
    sym (any_some k (λ j. was_return s j && nat_lt (stack_back s k) (stack_back s j)) left.from left.before
    (both (was_return s left.from) (stack_back s k) (stack_back s left.from) left.is (omega (arith, lower, left.at))))
left_by s k highest false is h =
    let upper : highest ≤ stack_back s k = grind (arith, nat_tests) in
    sym (any_none k (λ j. was_return s j && nat_lt (stack_back s k) (stack_back s j))
    (λ j before. not_both (was_return s j) (stack_back s k) (stack_back s j)
    (λ return. let below : stack_back s j ≤ highest = is.most j before return in omega (arith, below, upper))))

pub left_is : (s : Session) (k highest : ℕ) → IsHighest s k highest → nat_lt (stack_back s k) highest ≡ is_left s k
left_is s k highest is = left_by s k highest (nat_lt (stack_back s k) highest) is refl
