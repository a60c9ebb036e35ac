-- A run, a number at a time.
use Rattle.std.proofs.Common.{◌≡◌, ℕ, zero, suc, ◌+◌, ◌-◌, ◌<◌, List, Bool, true, false, Option, refl, arith}
use Rattle.source_forms.specs.declared.mark.Mark.{Mark}
use Rattle.source_forms.specs.Runs.{is_number, run_length}

pub ends : (cells : List (Option ℕ)) (marks : List Mark) (b left at : ℕ) → is_number cells marks b at ≡ false → run_length cells marks b left at ≡ 0
unfolding run_length
ends cells marks b zero at h = refl
ends cells marks b (suc n) at h = rw h refl

pub goes_on : (cells : List (Option ℕ)) (marks : List Mark) (b left at : ℕ) → 0 < left → is_number cells marks b at ≡ true
    → run_length cells marks b left at ≡ suc (run_length cells marks b (left - 1) (at + 1))
unfolding run_length
goes_on cells marks b zero at some h = absurd (omega (arith, some))
goes_on cells marks b (suc n) at some h = let one : suc n - 1 ≡ n = omega arith in rw (h, one) refl

pub none : (cells : List (Option ℕ)) (marks : List Mark) (b at : ℕ) → run_length cells marks b 0 at ≡ 0
unfolding run_length
none cells marks b at = refl
