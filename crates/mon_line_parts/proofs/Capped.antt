-- Numbers of which those above the highest are one.
use Rattle.std.proofs.Common.{◌≡◌, ℕ, zero, suc, ◌+◌, ◌*◌, ◌<◌, ◌≤◌, List, [], ◌∷◌, Option, Some, None, refl, ap, sym, ◌∙◌, arith, inl, inr, length, drop, get_or, add-one, false}
use Rattle.std.specs.Prelude.{min, ◌==◌}
use Rattle.std.specs.Option.{option_and_then, option_map}
use Rattle.std.proofs.lemmas.Bool.{cases_lt}
use Rattle.std.proofs.lemmas.List.{drop_all}
use Rattle.std.proofs.Math.Seq.{drop-cons}
use Rattle.model.specs.Digits.{number_from}
use Rattle.mon_line_parts.specs.Reading.{at_most_32_bits, digit_in, number_in}

same_sum : (n m base d : ℕ) → at_most_32_bits n ≡ at_most_32_bits m → at_most_32_bits (n * base + d) ≡ at_most_32_bits (m * base + d)
same_sum n m zero d h = omega (arith, h)
same_sum n m (suc b) d h = elim (cases_lt n 4294967295) [
  | inl small ↦ let e : n ≡ m = omega arith in ap (λ (x : ℕ). at_most_32_bits (x * suc b + d)) e
  | inr large ↦ omega (arith, h)
]

pub same_number : (base : ℕ) (digits : List ℕ) (n m : ℕ) → at_most_32_bits n ≡ at_most_32_bits m
    → option_map at_most_32_bits (number_from (digit_in base) base n digits) ≡ option_map at_most_32_bits (number_from (digit_in base) base m digits)
same_number base [] n m h = ap (λ (x : ℕ). Some x) h
same_number base (b ∷ digits) n m h =
    elim (digit_in base b) as (λ (o : Option ℕ). option_map at_most_32_bits
    (option_and_then (λ digit. number_from (digit_in base) base (n * base + digit) digits) o)
    ≡ option_map at_most_32_bits (option_and_then (λ digit. number_from (digit_in base) base (m * base + digit) digits) o)) [
      | None ↦ refl
      | Some d ↦ same_number base digits (n * base + d) (m * base + d) (same_sum n m base d h)
    ]

pub number_more : (base number product value number' i : ℕ) (digits : List ℕ) → i < length digits → Some value ≡ digit_in base (get_or digits i 0)
    → product ≡ min (number * base) 4294967295 → number' ≡ min (product + value) 4294967295
    → option_map at_most_32_bits (number_from (digit_in base) base number (drop i digits))
    ≡ option_map at_most_32_bits (number_from (digit_in base) base number' (drop (i + 1) digits))
number_more base number product value number' i digits h d p q =
    let same : at_most_32_bits (number * base + value) ≡ at_most_32_bits number' = omega arith in
    rw add-one (ap (λ (ds : List ℕ). option_map at_most_32_bits (number_from (digit_in base) base number ds)) (drop-cons digits i 0 h)
    ∙ ap (λ (o : Option ℕ). option_map at_most_32_bits (option_and_then
    (λ digit. number_from (digit_in base) base (number * base + digit) (drop (suc i) digits)) o)) (sym d)
    ∙ same_number base (drop (suc i) digits) (number * base + value) number' same)

pub number_end : (base number i : ℕ) (digits : List ℕ) → length digits ≤ i → number ≤ 4294967295 → (length digits == 0) ≡ false
    → option_map at_most_32_bits (number_from (digit_in base) base 0 digits)
    ≡ option_map at_most_32_bits (number_from (digit_in base) base number (drop i digits))
    → Some number ≡ number_in base digits
unfolding number_in
number_end base number i digits h small some e =
    let whole : at_most_32_bits number ≡ number = omega arith in
    sym (rw some (e ∙ ap (λ (ds : List ℕ). option_map at_most_32_bits (number_from (digit_in base) base number ds)) (drop_all i digits h)
    ∙ ap (λ (n : ℕ). Some n) whole))
