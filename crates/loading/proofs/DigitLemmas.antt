-- The numbers that digits write.
use Rattle.std.proofs.Common.{◌≡◌, ◌∙◌, ap, sym, suc, length, drop, drop-cons, get_or, ℕ, ◌+◌, ◌*◌, ◌^◌, ◌<◌, ◌≤◌, List, [], ◌∷◌, Option, Some, None, refl, arith}
use Rattle.std.specs.Option.{option_and_then}
use Rattle.std.proofs.Math.Nat.{pow-le-pow_right}
use Rattle.std.proofs.lemmas.Grind.{common_steps}
use Rattle.model.specs.Digits.{number_from}
use Rattle.loading.specs.Place.{as_address}

-- eighteen digits write a number below the eighteenth power of ten
pub eighteen_digits : (value i : ℕ) → value < 10 ^ i → i ≤ 18 → value < 10 ^ 18
eighteen_digits value i h k = let p : 10 ^ i ≤ 10 ^ 18 = pow-le-pow_right (omega arith) k in omega arith

above : (n : ℕ) → 65535 < n → as_address (Some n) ≡ None
above n large = grind (arith, common_steps)

-- a number above 65,535 stays above it, whatever digits follow
pub too_large : (value : ℕ → Option ℕ) (base : ℕ) → ((m d : ℕ) → m ≤ m * base + d) → (n : ℕ) (bytes : List ℕ) → 65535 < n
    → as_address (number_from value base n bytes) ≡ None
too_large value base grows n [] large = above n large
too_large value base grows n (b ∷ bytes) large =
    elim (value b) as (λ v. as_address (option_and_then (λ digit. number_from value base (n * base + digit) bytes) v) ≡ None) [
      | None ↦ refl
      | Some d ↦ let more = grows n d in too_large value base grows (n * base + d) bytes (omega (arith, more))
    ]

-- a digit after which the number is above 65,535
pub beyond : (value : ℕ → Option ℕ) (base : ℕ) → ((m d : ℕ) → m ≤ m * base + d) → (word : List ℕ) (n i d : ℕ)
    → i < length word → number_from value base 0 word ≡ number_from value base n (drop i word)
    → Some d ≡ value (get_or word i 0) → 65535 < n * base + d → None ≡ as_address (number_from value base 0 word)
beyond value base grows word n i d within rest digit large =
    let next : number_from value base n (drop i word) ≡ number_from value base (n * base + d) (drop (suc i) word) =
    rw (drop-cons word i 0 within, ← digit) refl in
    sym (ap as_address (rest ∙ next) ∙ too_large value base grows (n * base + d) (drop (suc i) word) large)
