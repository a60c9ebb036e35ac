-- The call that a run is within, step by step.
use Rattle.std.proofs.Common.{◌≡◌, ℕ, suc, ◌+◌, ◌<◌, ◌≤◌, Bool, true, false, cond, Option, Some, None, refl, ap, sym, ◌∙◌, arith, inl, inr}
use Rattle.std.specs.Prelude.{◌&&◌, not, nat_lt, nat_le, is_some}
use Rattle.std.proofs.lemmas.Bool.{cases_lt, cases_order, and_parts}
use Rattle.std.proofs.lemmas.Bool.Decides.{nat_tests}
use Rattle.model.specs.Session.{Session}
use Rattle.line_steps.specs.Calls.{call_begun, call_open, has_returned, is_call, is_within_call, stack_on, state_on}
use Rattle.line_steps.proofs.Counted.{any_at, any_gives, any_none, any_some}

-- ---- when a call has returned

since : (j i a b : ℕ) → j < i → a ≤ b → (nat_lt j i && nat_le a b) ≡ true
since j i a b later above = grind (arith, nat_tests)

pub returned : (s : Session) (j k i : ℕ) → j < i → i ≤ k → stack_on s j ≤ stack_on s i → has_returned s j k ≡ true
unfolding has_returned
returned s j k i later within above =
    any_some (suc k) (λ i. nat_lt j i && nat_le (stack_on s j) (stack_on s i)) i (omega (arith, within)) (since j i (stack_on s j) (stack_on s i) later above)

pub record HasReturned (s : Session) (j k : ℕ) : Type 0 where
  pub at : ℕ
  pub later : j < at
  pub within : at ≤ k
  pub above : stack_on s j ≤ stack_on s at

since_parts : (j i a b : ℕ) → (nat_lt j i && nat_le a b) ≡ true → (j < i) × (a ≤ b)
since_parts j i a b h =
    let parts = and_parts (nat_lt j i) (nat_le a b) h in
    let lower = parts.0 in
    let upper = parts.1 in
    (grind (arith, nat_tests), grind (arith, nat_tests))

returned_at : (s : Session) (j k : ℕ) → has_returned s j k ≡ true → HasReturned s j k
unfolding has_returned
returned_at s j k h =
    let found = any_gives (suc k) (λ i. nat_lt j i && nat_le (stack_on s j) (stack_on s i)) h in
    let parts = since_parts j found.0 (stack_on s j) (stack_on s found.0) found.2 in
    record { at = found.0; later = parts.0; within = omega (arith, found.1); above = parts.1 }

returned_more : (s : Session) (j k n : ℕ) → has_returned s j k ≡ true → k ≤ n → has_returned s j n ≡ true
returned_more s j k n h more =
    let at = returned_at s j k h in returned s j n at.at at.later (omega (arith, at.within, more)) at.above

below_by : (j i a b : ℕ) → (nat_lt j i && nat_le a b) ≡ false → j < i → b < a
below_by j i a b h later = grind (arith, nat_tests)

open_at : (s : Session) (j k i : ℕ) → has_returned s j k ≡ false → j < i → i ≤ k → stack_on s i < stack_on s j
unfolding has_returned
open_at s j k i h later within =
    below_by j i (stack_on s j) (stack_on s i)
    (any_at (suc k) (λ i. nat_lt j i && nat_le (stack_on s j) (stack_on s i)) i h (omega (arith, within))) later

not_since : (j i a b : ℕ) → (j < i → b < a) → (nat_lt j i && nat_le a b) ≡ false
not_since j i a b h = grind (arith, nat_tests)

not_returned : (s : Session) (j k : ℕ) → ((i : ℕ) → j < i → i ≤ k → stack_on s i < stack_on s j) → has_returned s j k ≡ false
unfolding has_returned
not_returned s j k h =
    any_none (suc k) (λ i. nat_lt j i && nat_le (stack_on s j) (stack_on s i))
    (λ i below. not_since j i (stack_on s j) (stack_on s i) (λ later. h i later (omega (arith, below))))

-- ---- when a state is within a call

call_true : (call returned : Bool) → call ≡ true → returned ≡ false → (call && not returned) ≡ true
call_true true false h k = refl
call_true true true h k = cc
call_true false returned h k = cc

call_false : (call returned : Bool) → (call ≡ true → returned ≡ true) → (call && not returned) ≡ false
call_false false returned h = refl
call_false true true h = refl
call_false true false h = let no : false ≡ true = h refl in cc

within : (s : Session) (k j : ℕ) → j < k → is_call (state_on s j) ≡ true → has_returned s j k ≡ false → is_within_call s k ≡ true
unfolding is_within_call
within s k j before is unreturned =
    any_some k (λ j. is_call (state_on s j) && not (has_returned s j k)) j before (call_true (is_call (state_on s j)) (has_returned s j k) is unreturned)

not_within : (s : Session) (k : ℕ) → ((j : ℕ) → j < k → is_call (state_on s j) ≡ true → has_returned s j k ≡ true) → is_within_call s k ≡ false
unfolding is_within_call
not_within s k h =
    any_none k (λ j. is_call (state_on s j) && not (has_returned s j k)) (λ j before. call_false (is_call (state_on s j)) (has_returned s j k) (h j before))

returned_by : (call returned : Bool) → (call && not returned) ≡ false → call ≡ true → returned ≡ true
returned_by true true h k = refl
returned_by true false h k = cc
returned_by false returned h k = cc

have_returned : (s : Session) (k j : ℕ) → is_within_call s k ≡ false → j < k → is_call (state_on s j) ≡ true → has_returned s j k ≡ true
unfolding is_within_call
have_returned s k j none before is =
    returned_by (is_call (state_on s j)) (has_returned s j k)
    (any_at k (λ j. is_call (state_on s j) && not (has_returned s j k)) j none before) is

-- ---- step by step

-- the outermost call that the state after k steps is within, by the stack pointer before it
pub record IsOutermost (s : Session) (k stack : ℕ) : Type 0 where
  pub from : ℕ
  pub before : from < k
  pub call : is_call (state_on s from) ≡ true
  pub at : stack_on s from ≡ stack
  pub unreturned : has_returned s from k ≡ false
  pub first : is_within_call s from ≡ false

abbrev pub IsCall : Session → ℕ → Option ℕ → Type 0
IsCall s k None = is_within_call s k ≡ false
IsCall s k (Some stack) = IsOutermost s k stack

pub call_none : (s : Session) → IsCall s 0 None
call_none s = not_within s 0 (λ j before. absurd (omega (arith, before)))

pub call_is : (s : Session) (k : ℕ) (call : Option ℕ) → IsCall s k call → is_some call ≡ is_within_call s k
call_is s k None none = sym none
call_is s k (Some stack) is = sym (within s k is.from is.before is.call is.unreturned)

-- the call goes on, or returns with the step
lower : (a b : ℕ) → nat_lt a b ≡ true → a < b
lower a b h = grind (arith, nat_tests)

not_lower : (a b : ℕ) → nat_lt a b ≡ false → b ≤ a
not_lower a b h = grind (arith, nat_tests)

goes_on : (s : Session) (k stack : ℕ) → IsOutermost s k stack → stack_on s (k + 1) < stack → IsOutermost s (k + 1) stack
goes_on s k stack is below = record {
  from = is.from;
  before = omega (arith, is.before);
  call = is.call;
  at = is.at;
  unreturned = not_returned s is.from (k + 1) (λ i later within. elim (cases_lt k i) [
    | inl next ↦
        let same : i ≡ k + 1 = omega (arith, next, within) in
        let there : stack_on s i ≡ stack_on s (k + 1) = ap (λ (n : ℕ). stack_on s n) same in
        omega (arith, there, below, is.at)
    | inr before ↦ open_at s is.from k i is.unreturned later before
  ]);
  first = is.first;
}

ends : (s : Session) (k stack : ℕ) → IsOutermost s k stack → stack ≤ stack_on s (k + 1) → is_within_call s (k + 1) ≡ false
ends s k stack is above = not_within s (k + 1) (λ j before call. elim (cases_order j is.from) [
  | inl same ↦
      let there : stack_on s j ≡ stack_on s is.from = ap (λ (n : ℕ). stack_on s n) same in
      returned s j (k + 1) (k + 1) before (omega arith) (omega (arith, there, is.at, above))
  | inr (inl earlier) ↦
      returned_more s j is.from (k + 1) (have_returned s is.from j is.first earlier call) (omega (arith, is.before))
  | inr (inr later) ↦
      elim (cases_lt j (k + 1)) [
        | inl less ↦
            let below : stack_on s j < stack_on s is.from = open_at s is.from k j is.unreturned later (omega (arith, less)) in
            returned s j (k + 1) (k + 1) before (omega arith) (omega (arith, below, is.at, above))
        | inr most ↦ absurd (omega (arith, before, most))
      ]
])

outermost_more : (s : Session) (k stack : ℕ) (below : Bool) → IsOutermost s k stack → nat_lt (stack_on s (k + 1)) stack ≡ below
    → IsCall s (k + 1) (cond below (Some stack) None)
outermost_more s k stack true is h = goes_on s k stack is (lower (stack_on s (k + 1)) stack h)
outermost_more s k stack false is h = ends s k stack is (not_lower (stack_on s (k + 1)) stack h)

-- no call is made
none_made : (s : Session) (k : ℕ) → is_within_call s k ≡ false
    → (is_call (state_on s k) ≡ true → stack_on s k ≤ stack_on s (k + 1)) → is_within_call s (k + 1) ≡ false
none_made s k none here = not_within s (k + 1) (λ j before call. elim (cases_lt j k) [
  | inl less ↦ returned_more s j k (k + 1) (have_returned s k j none less call) (omega arith)
  | inr most ↦
      let same : j ≡ k = omega (arith, before, most) in
      let is : is_call (state_on s k) ≡ true = ap (λ (n : ℕ). is_call (state_on s n)) (sym same) ∙ call in
      let there : stack_on s j ≡ stack_on s k = ap (λ (n : ℕ). stack_on s n) same in
      let above : stack_on s k ≤ stack_on s (k + 1) = here is in
      returned s j (k + 1) (k + 1) before (omega arith) (omega (arith, there, above))
])

made : (s : Session) (k : ℕ) → is_within_call s k ≡ false → is_call (state_on s k) ≡ true
    → stack_on s (k + 1) < stack_on s k → IsOutermost s (k + 1) (stack_on s k)
made s k none call below = record {
  from = k;
  before = omega arith;
  call = call;
  at = refl;
  unreturned = not_returned s k (k + 1) (λ i later within.
      let same : i ≡ k + 1 = omega (arith, later, within) in
      let there : stack_on s i ≡ stack_on s (k + 1) = ap (λ (n : ℕ). stack_on s n) same in
      omega (arith, there, below));
  first = none;
}

made_more : (s : Session) (k : ℕ) (below : Bool) → is_within_call s k ≡ false → is_call (state_on s k) ≡ true
    → nat_lt (stack_on s (k + 1)) (stack_on s k) ≡ below → IsCall s (k + 1) (cond below (Some (stack_on s k)) None)
made_more s k true none call h = made s k none call (lower (stack_on s (k + 1)) (stack_on s k) h)
made_more s k false none call h = none_made s k none (λ is. not_lower (stack_on s (k + 1)) (stack_on s k) h)

begun_more : (s : Session) (k : ℕ) (is : Bool) → is_within_call s k ≡ false → is_call (state_on s k) ≡ is
    → IsCall s (k + 1) (call_open (cond is (Some (stack_on s k)) None) (state_on s (k + 1)))
begun_more s k true none call = made_more s k (nat_lt (stack_on s (k + 1)) (stack_on s k)) none call refl
begun_more s k false none call = none_made s k none (λ is. cc)

pub call_more : (s : Session) (k : ℕ) (call : Option ℕ) → IsCall s k call
    → IsCall s (k + 1) (call_open (call_begun call (state_on s k)) (state_on s (k + 1)))
call_more s k None none = begun_more s k (is_call (state_on s k)) none refl
call_more s k (Some stack) is = outermost_more s k stack (nat_lt (stack_on s (k + 1)) stack) is refl
