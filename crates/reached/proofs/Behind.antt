-- Along a string, a byte at a time.
use Rattle.std.proofs.Common.{◌≡◌, ℕ, zero, suc, ◌+◌, ◌-◌, ◌%◌, ◌<◌, List, false, true, Option, Some, None, refl, arith}
use Rattle.std.specs.Prelude.{◌==◌, nat_le}
use Rattle.model.specs.Image.{cell_at}
use Rattle.reached.specs.Reached.{behind_high, behind_zero}

pub gap : (cells : List (Option ℕ)) (left at : ℕ) → cell_at cells at ≡ None → behind_zero cells left at ≡ None
unfolding behind_zero
gap cells zero at h = refl
gap cells (suc n) at h = rw h refl

pub ends : (cells : List (Option ℕ)) (left at b : ℕ) → 0 < left → cell_at cells at ≡ Some b → (b == 0) ≡ true
    → behind_zero cells left at ≡ Some ((at + 1) % 65536)
unfolding behind_zero
ends cells zero at b some h zero_byte = absurd (omega (arith, some))
ends cells (suc n) at b some h zero_byte = rw (h, zero_byte) refl

pub goes_on : (cells : List (Option ℕ)) (left at b : ℕ) → 0 < left → cell_at cells at ≡ Some b → (b == 0) ≡ false
    → behind_zero cells left at ≡ behind_zero cells (left - 1) (at + 1)
unfolding behind_zero
goes_on cells zero at b some h other = absurd (omega (arith, some))
goes_on cells (suc n) at b some h other = let one : suc n - 1 ≡ n = omega arith in rw (h, other, one) refl

pub none : (cells : List (Option ℕ)) (at : ℕ) → behind_zero cells 0 at ≡ None
unfolding behind_zero
none cells at = refl

-- ---- to a byte with bit 7

pub high_gap : (cells : List (Option ℕ)) (left at : ℕ) → cell_at cells at ≡ None → behind_high cells left at ≡ None
unfolding behind_high
high_gap cells zero at h = refl
high_gap cells (suc n) at h = rw h refl

pub high_ends : (cells : List (Option ℕ)) (left at b : ℕ) → 0 < left → cell_at cells at ≡ Some b → nat_le 128 b ≡ true
    → behind_high cells left at ≡ Some ((at + 1) % 65536)
unfolding behind_high
high_ends cells zero at b some h bit = absurd (omega (arith, some))
high_ends cells (suc n) at b some h bit = rw (h, bit) refl

pub high_goes_on : (cells : List (Option ℕ)) (left at b : ℕ) → 0 < left → cell_at cells at ≡ Some b → nat_le 128 b ≡ false
    → behind_high cells left at ≡ behind_high cells (left - 1) (at + 1)
unfolding behind_high
high_goes_on cells zero at b some h other = absurd (omega (arith, some))
high_goes_on cells (suc n) at b some h other = let one : suc n - 1 ≡ n = omega arith in rw (h, other, one) refl

pub high_none : (cells : List (Option ℕ)) (at : ℕ) → behind_high cells 0 at ≡ None
unfolding behind_high
high_none cells at = refl
