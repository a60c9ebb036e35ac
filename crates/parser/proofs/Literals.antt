-- A number that is capped at 2^31 while its digits are read is in range just where the whole number
-- is.
use Rattle.std.proofs.Common.{◌≡◌, ℕ, zero, suc, ◌+◌, ◌*◌, ◌<◌, ◌≤◌, min, Bool, true, false, List, [], ◌∷◌, length, drop, get_or, None, Some, refl, sym, ap, ◌∙◌, arith, drop-cons, add-one}
use Rattle.std.specs.Prelude.{nat_lt, pos}
use Rattle.std.proofs.lemmas.Bool.{ltb-false, ltb-true, le-ltb, lt-ltb}
use Rattle.model.specs.Digits.{digit_value}
use Rattle.model.specs.Expression.{number_after, in_range}

more : (base n v : ℕ) → 1 ≤ base → 2147483648 ≤ n → 2147483648 ≤ n * base + v
more zero n v h le = absurd (omega arith)
more (suc base) n v h le = grind arith

-- digits after a number that is past the range
past : (base n : ℕ) (digits : List ℕ) → 1 ≤ base → 2147483648 ≤ n → 2147483648 ≤ number_after base n digits
past base n [] h le = le
past base n (b ∷ digits) h le = past base (n * base + digit_value b) digits h (more base n (digit_value b) h le)

is_past : (n : ℕ) → 2147483648 ≤ n → in_range n ≡ None
is_past n le = rw (le-ltb n 2147483648 le) refl

pub capped_end : (n : ℕ) → n ≤ 2147483647 → in_range n ≡ Some (pos n)
capped_end n le = rw (lt-ltb n 2147483648 (omega arith)) refl

capped_step : (base n : ℕ) (digits : List ℕ) → 1 ≤ base → in_range (number_after base (min n 2147483648) digits) ≡ in_range (number_after base n digits)
capped_step base n digits h = go (nat_lt n 2147483648) refl where
  go : (b : Bool) → nat_lt n 2147483648 ≡ b → in_range (number_after base (min n 2147483648) digits) ≡ in_range (number_after base n digits)
  go true t =
      let lt = ltb-true n 2147483648 t in
      let e : min n 2147483648 ≡ n = omega (arith, lt) in
      ap (λ m. in_range (number_after base m digits)) e
  go false t =
      let le = ltb-false n 2147483648 t in
      let e : 2147483648 ≤ min n 2147483648 = omega (arith, le) in
      is_past (number_after base (min n 2147483648) digits) (past base (min n 2147483648) digits h e)
      ∙ sym (is_past (number_after base n digits) (past base n digits h le))

-- a turn of the loop over the digits
pub capped_turn : (base n i : ℕ) (digits : List ℕ) → 1 ≤ base → i < length digits
    → in_range (number_after base (min (n * base + digit_value (get_or digits i 0)) 2147483648) (drop (i + 1) digits))
    ≡ in_range (number_after base n (drop i digits))
capped_turn base n i digits h lt =
    rw (drop-cons digits i 0 lt, add-one i) (capped_step base (n * base + digit_value (get_or digits i 0)) (drop (suc i) digits) h)
