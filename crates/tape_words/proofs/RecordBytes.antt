-- The digits of a record, and the bytes that they write.
use Rattle.std.proofs.Common.{◌≡◌, ℕ, zero, suc, ◌+◌, ◌*◌, ◌<◌, ◌≤◌, List, [], ◌∷◌, ◌++◌, append_assoc, length, slice_index, sum, take, refl, ap, ◌∙◌, arith}
use Rattle.std.proofs.lemmas.List.Sums.{sum_by-cons}
use Rattle.model.specs.Digits.{digit_value}
use Rattle.model.specs.Tape.{bytes_of_digits, needed}

-- Two digits write a byte.
pub byte_there : (digits : List ℕ) (k i j : ℕ) → i ≡ 2 * k → j ≡ 2 * k + 1 → j < length digits
    → slice_index (bytes_of_digits digits) k ≡ digit_value (slice_index digits i) * 16 + digit_value (slice_index digits j)
byte_there [] k i j e f h = absurd (omega (arith, h))
byte_there (d ∷ []) k i j e f h = absurd (omega (arith, e, f, h))
byte_there (high ∷ low ∷ digits) zero i j e f h =
    let a : i ≡ 0 = omega (arith, e) in
    let b : j ≡ 1 = omega (arith, f) in
    rw (a, b) refl
byte_there (high ∷ low ∷ digits) (suc k) i j e f h =
    let a : i ≡ suc (suc (2 * k)) = omega (arith, e) in
    let b : j ≡ suc (suc (2 * k + 1)) = omega (arith, f) in
    rw (a, b) (byte_there digits k (2 * k) (2 * k + 1) refl refl (omega (arith, b, h)))

-- The digits that a record needs say so themselves.
pub needed-front : (text : List ℕ) (n : ℕ) → 2 ≤ n → needed (take n text) ≡ needed text
needed-front text zero h = absurd (omega (arith, h))
needed-front text (suc zero) h = absurd (omega (arith, h))
needed-front [] (suc (suc n)) h = refl
needed-front (d ∷ []) (suc (suc n)) h = refl
needed-front (high ∷ low ∷ text) (suc (suc n)) h = refl

-- The sum of one byte more.
pub sum-more : (bytes : List ℕ) (k n : ℕ) → n ≡ k + 1 → sum (take n bytes) ≡ sum (take k bytes) + slice_index bytes k
sum-more bytes k zero e = absurd (omega (arith, e))
sum-more [] zero (suc n) e = refl
sum-more [] (suc k) (suc n) e = refl
sum-more (b ∷ bytes) zero (suc n) e =
    let none : n ≡ 0 = omega (arith, e) in
    ap (λ m. sum (take (suc m) (b ∷ bytes))) none
sum-more (b ∷ bytes) (suc k) (suc n) e =
    let rest = sum-more bytes k n (omega (arith, e)) in
    let one : sum (take (suc n) (b ∷ bytes)) ≡ b + sum (take n bytes) = sum_by-cons (λ x. x) b (take n bytes) in
    let two : sum (take (suc k) (b ∷ bytes)) ≡ b + sum (take k bytes) = sum_by-cons (λ x. x) b (take k bytes) in
    let same : slice_index (b ∷ bytes) (suc k) ≡ slice_index bytes k = refl in
    omega (arith, rest, one, two, same)

pub ruleset summed_one_more = sum-more

pub ruleset the_same_needed = needed-front

-- Three texts, one behind the other.
pub three_texts : (t0 t1 t2 t3 a b c : List ℕ) → t1 ≡ t0 ++ a → t2 ≡ t1 ++ b → t3 ≡ t2 ++ c → t3 ≡ t0 ++ (a ++ b ++ c)
three_texts t0 t1 t2 t3 a b c e1 e2 e3 =
    e3 ∙ (ap (λ t. t ++ c) (e2 ∙ (ap (λ t. t ++ b) e1 ∙ append_assoc t0 a b)) ∙ append_assoc t0 (a ++ b) c)
