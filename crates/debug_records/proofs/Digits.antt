-- Numbers, digit by digit.
use Rattle.std.proofs.Common.{◌≡◌, ◌∙◌, ℕ, suc, ◌+◌, ◌*◌, ◌^◌, ◌<◌, ◌≤◌, List, [], ◌∷◌, Option, Some, None, Bool, true, false, cond, length, drop, get_or, refl, sym, ap, arith}
use Rattle.std.specs.Option.{option_and_then}
use Rattle.std.proofs.Math.Dec.{ltb}
use Rattle.std.proofs.lemmas.List.{at_drop_more, at_drop_all}
use Rattle.std.proofs.lemmas.Bool.{le-ltb, lt-ltb, ltb-false}
use Rattle.model.specs.Digits.{number_from}
use Rattle.debug_records.specs.Numbers.{not_large}

pub digit_more : (value : ℕ → Option ℕ) (base n i : ℕ) (digits : List ℕ) → i < length digits
    → number_from value base n (drop i digits) ≡ option_and_then (λ digit. number_from value base (n * base + digit) (drop (i + 1) digits))
    (value (get_or digits i 0))
digit_more value base n i digits h = at_drop_more (number_from value base n) digits i 0 h

pub no_digit_left : (value : ℕ → Option ℕ) (base n i : ℕ) (digits : List ℕ) → length digits ≤ i
    → number_from value base n (drop i digits) ≡ Some n
no_digit_left value base n i digits h = at_drop_all (number_from value base n) digits i h

-- behind the last digit
pub number_done : (value : ℕ → Option ℕ) (base n i : ℕ) (digits : List ℕ) → length digits ≤ i → n < 2 ^ 32
    → not_large (number_from value base n (drop i digits)) ≡ Some n
number_done value base n i digits h small =
    ap not_large (no_digit_left value base n i digits h) ∙ rw (lt-ltb n (2 ^ 32) small) refl

large : (n : ℕ) → 2 ^ 32 ≤ n → not_large (Some n) ≡ None
large n h = rw (le-ltb n (2 ^ 32) h) refl

-- a number that is too large stays so
pub stays_large : (value : ℕ → Option ℕ) (b n : ℕ) (digits : List ℕ) → 2 ^ 32 ≤ n → not_large (number_from value (suc b) n digits) ≡ None
stays_large value b n [] h = large n h
stays_large value b n (d ∷ digits) h =
    elim (value d) as (λ (o : Option ℕ). not_large (option_and_then (λ digit. number_from value (suc b) (n * suc b + digit) digits) o) ≡ None) [
      | None ↦ refl
      | Some k ↦ stays_large value b (n * suc b + k) digits (omega (arith, h))
    ]

not_below : (b : Bool) (m : ℕ) → None ≡ cond b (Some m) None → b ≡ false
not_below true m h = cc
not_below false m h = refl

is_large : (m : ℕ) → None ≡ not_large (Some m) → 2 ^ 32 ≤ m
is_large m h = ltb-false m (2 ^ 32) (not_below (ltb m (2 ^ 32)) m h)

-- the digit that makes it too large
pub large_digit : (value : ℕ → Option ℕ) (b n k i : ℕ) (digits : List ℕ) → i < length digits → Some k ≡ value (get_or digits i 0)
    → None ≡ not_large (Some (n * suc b + k))
    → not_large (number_from value (suc b) 0 digits) ≡ not_large (number_from value (suc b) n (drop i digits))
    → None ≡ not_large (number_from value (suc b) 0 digits)
large_digit value b n k i digits h d large so_far = sym (so_far
    ∙ (ap not_large (digit_more value (suc b) n i digits h ∙ ap
    (λ (o : Option ℕ). option_and_then (λ digit. number_from value (suc b) (n * suc b + digit) (drop (i + 1) digits)) o) (sym d))
    ∙ stays_large value b (n * suc b + k) (drop (i + 1) digits) (is_large (n * suc b + k) large)))
