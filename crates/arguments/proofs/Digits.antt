-- How large a number of so many digits is.
use Rattle.std.proofs.Common.{ℕ, ◌^◌, ◌<◌, ◌≤◌, arith}
use Rattle.std.proofs.Math.Nat.{pow-le-pow_right}

-- Eighteen digits write a number below the eighteenth power of ten.
pub eighteen_digits : (value i : ℕ) → value < 10 ^ i → i ≤ 18 → value < 10 ^ 18
eighteen_digits value i h k = let p : 10 ^ i ≤ 10 ^ 18 = pow-le-pow_right (omega arith) k in omega arith
