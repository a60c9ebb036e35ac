-- Differences that may lie below 0, as whole numbers raised by so much that none does.
use Rattle.std.proofs.Common.{◌≡◌, ℕ, ◌+◌, ◌*◌, ◌/◌, ◌%◌, ◌<◌, ◌≤◌, Bool, true, false, refl, sym, ap, ◌∙◌, arith, not}
use Rattle.std.specs.Prelude.{◌-◌, nat_lt, nat_le, ℤ, pos, negsuc, ◌+ℤ◌, ◌-ℤ◌, unsigned_abs, if◌then◌else◌}
use Rattle.std.specs.Int.Signed.{lt_z, le_z}
use Rattle.std.proofs.lemmas.Int.{ints, int_rem_euclid_is}
use Rattle.std.proofs.lemmas.Bool.Decides.{nat_tests}
use Rattle.model.specs.Arithmetic.{bit, modulo, low_part, high_part, sbc_low, sbc_decimal}

-- a multiple of the divisor added
pub modulo_raised : (z : ℤ) (m k n : ℕ) → 0 < m → z +ℤ pos (k * m) ≡ pos n → modulo z m ≡ n % m
modulo_raised (pos a) m k n h e = ap unsigned_abs (int_rem_euclid_is (pos a) (pos m) m k n h refl e)
modulo_raised (negsuc a) m k n h e = ap unsigned_abs (int_rem_euclid_is (negsuc a) (pos m) m k n h refl e)

pub below_raised : (z : ℤ) (k n : ℕ) → z +ℤ pos k ≡ pos n → lt_z z (pos 0) ≡ nat_lt n k
below_raised z k n e = grind (arith, ints, nat_tests)

pub above_raised : (z : ℤ) (k n : ℕ) → z +ℤ pos k ≡ pos n → le_z (pos 0) z ≡ nat_le k n
above_raised z k n e = grind (arith, ints, nat_tests)

-- a less m and less k, raised by r
pub difference : (r a m k : ℕ) → m + k ≤ r → pos a -ℤ pos m -ℤ pos k +ℤ pos r ≡ pos (r + a - m - k)
difference r a m k h = omega (arith, ints)

-- the binary difference, and whether there is a borrow
pub binary_value : (a m k : ℕ) → m + k ≤ 256 → modulo (pos a -ℤ pos m -ℤ pos k) 256 ≡ (256 + a - m - k) % 256
binary_value a m k h = modulo_raised (pos a -ℤ pos m -ℤ pos k) 256 1 (256 + a - m - k) (omega arith) (difference 256 a m k h)

pub binary_carry : (a m k : ℕ) → m + k ≤ 256 → le_z (pos 0) (pos a -ℤ pos m -ℤ pos k) ≡ nat_le 256 (256 + a - m - k)
binary_carry a m k h = above_raised (pos a -ℤ pos m -ℤ pos k) 256 (256 + a - m - k) (difference 256 a m k h)

there_and_back : (n k : ℕ) → pos n -ℤ pos k +ℤ pos k ≡ pos n
there_and_back n k = omega (arith, ints)

-- the difference of the lower digits, raised by 16, and with 6 taken off and 16 borrowed where it
-- was below 0
abbrev pub low_raised : ℕ → ℕ → ℕ → ℕ
low_raised a m k = 16 + a % 16 - m % 16 - k

abbrev pub lowered : ℕ → ℕ
lowered n = if nat_lt n 16 then (n + 10) % 16 else n

pub low_is : (a m : ℕ) (c : Bool) → bit (not c) < 2 → sbc_low a m c +ℤ pos 16 ≡ pos (lowered (low_raised a m (bit (not c))))
low_is a m c h =
    let k = bit (not c) in
    let z = pos (low_part a) -ℤ pos (low_part m) -ℤ pos k in
    let e : z +ℤ pos 16 ≡ pos (low_raised a m k) = difference 16 (a % 16) (m % 16) k (omega arith) in
    let less : modulo (z -ℤ pos 6) 16 ≡ (low_raised a m k + 10) % 16 =
    modulo_raised (z -ℤ pos 6) 16 2 (low_raised a m k + 10) (omega arith) (omega (arith, ints)) in
    by z (low_raised a m k) (nat_lt (low_raised a m k) 16) (below_raised z 16 (low_raised a m k) e) less e
  where
    by : (z : ℤ) (n : ℕ) (b : Bool) → lt_z z (pos 0) ≡ b → modulo (z -ℤ pos 6) 16 ≡ (n + 10) % 16 → z +ℤ pos 16 ≡ pos n
        → (if lt_z z (pos 0) then pos (modulo (z -ℤ pos 6) 16) -ℤ pos 16 else z) +ℤ pos 16 ≡ pos (if b then (n + 10) % 16 else n)
    by z n true t less e = rw (t, less) (there_and_back ((n + 10) % 16) 16)
    by z n false t less e = rw t e

-- the whole difference, raised by 256
abbrev pub high_raised : ℕ → ℕ → ℕ → ℕ
high_raised a m low = 256 + high_part a - high_part m + low - 16

pub decimal_is : (a m : ℕ) (c : Bool) → a < 256 → m < 256 → bit (not c) < 2
    → (sbc_decimal a m c).value ≡ (let raised = high_raised a m (lowered (low_raised a m (bit (not c)))) in
    if nat_lt raised 256 then (raised + 160) % 256 else raised % 256)
decimal_is a m c ha hm h =
    let low = lowered (low_raised a m (bit (not c))) in
    let n = high_raised a m low in
    let z = pos (high_part a) -ℤ pos (high_part m) +ℤ sbc_low a m c in
    let e : z +ℤ pos 256 ≡ pos n = sum (sbc_low a m c) low (low_is a m c h) in
    by z n (nat_lt n 256) (below_raised z 256 n e) e
  where
    sum : (y : ℤ) (low : ℕ) → y +ℤ pos 16 ≡ pos low → pos (high_part a) -ℤ pos (high_part m) +ℤ y +ℤ pos 256 ≡ pos (high_raised a m low)
    sum y low e = omega (arith, ints)

    by : (z : ℤ) (n : ℕ) (b : Bool) → lt_z z (pos 0) ≡ b → z +ℤ pos 256 ≡ pos n
        → modulo (if lt_z z (pos 0) then z -ℤ pos 0x60 else z) 256 ≡ (if b then (n + 160) % 256 else n % 256)
    by z n true t e = rw t (modulo_raised (z -ℤ pos 96) 256 2 (n + 160) (omega arith) (omega (arith, ints)))
    by z n false t e = rw t (modulo_raised z 256 1 n (omega arith) e)
