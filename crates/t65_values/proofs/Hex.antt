-- Numbers of hex digits.
use Rattle.std.proofs.Common.{ℕ, ◌<◌, ◌≤◌, ◌^◌, arith}
use Rattle.std.proofs.Math.Nat.{pow-le-pow_right}

-- four digits write a number below 65,536
pub four_digits : (value i : ℕ) → value < 16 ^ i → i ≤ 4 → value < 16 ^ 4
four_digits value i h k = let p : 16 ^ i ≤ 16 ^ 4 = pow-le-pow_right (omega arith) k in omega arith
