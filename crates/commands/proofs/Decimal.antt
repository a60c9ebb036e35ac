-- The numbers that digits write.
use Rattle.std.proofs.Common.{◌≡◌, ℕ, ◌+◌, ◌*◌, ◌^◌, ◌<◌, ◌≤◌, List, [], ◌∷◌, ap, length, get_or, arith, add-one, Some}
use Rattle.std.proofs.Math.Nat.{pow-suc, pow-le-pow_right}
use Rattle.model.specs.Digits.{hex_value}
use Rattle.model.specs.Commands.{address_of}

-- i digits write a number below the i-th power of ten
pub still_small : (value d i : ℕ) → value < 10 ^ i → d < 10 → value * 10 + d < 10 ^ (i + 1)
still_small value d i h k = let p : 10 ^ (i + 1) ≡ 10 ^ i * 10 = rw add-one (pow-suc 10 i) in omega arith

-- seven digits write a number below 10,000,000
pub seven_digits : (value i : ℕ) → value < 10 ^ i → i ≤ 7 → value < 10 ^ 7
seven_digits value i h k = let p : 10 ^ i ≤ 10 ^ 7 = pow-le-pow_right (omega arith) k in omega arith

-- four hex digits
pub four_digits : (word : List ℕ) (u v w x : ℕ) → 4 ≤ length word → length word < 5
    → Some u ≡ hex_value (get_or word 0 0) → Some v ≡ hex_value (get_or word 1 0) → Some w ≡ hex_value (get_or word 2 0) → Some x ≡ hex_value (get_or word 3 0)
    → address_of word ≡ Some (((u * 16 + v) * 16 + w) * 16 + x)
four_digits [] u v w x least most p q r s = absurd (omega arith)
four_digits (a ∷ []) u v w x least most p q r s = absurd (omega arith)
four_digits (a ∷ b ∷ []) u v w x least most p q r s = absurd (omega arith)
four_digits (a ∷ b ∷ c ∷ []) u v w x least most p q r s = absurd (omega arith)
four_digits (a ∷ b ∷ c ∷ d ∷ []) u v w x least most p q r s = rw (← p, ← q, ← r, ← s) (ap (λ n. Some n) (omega arith))
four_digits (a ∷ b ∷ c ∷ d ∷ e ∷ word) u v w x least most p q r s = absurd (omega arith)
