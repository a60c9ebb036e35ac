-- Whether one of so many addresses is flagged, an address at a time.
use Rattle.std.proofs.Common.{◌≡◌, ℕ, zero, suc, ◌+◌, ◌-◌, ◌<◌, List, [], ◌∷◌, length, Bool, true, false, Option, Some, refl, ap, arith, replicate}
use Rattle.model.specs.Image.{cell_at}
use Rattle.source_forms.specs.Rows.{stretch, kind_of, mark_at}
use Rattle.source_forms.specs.declared.mark.Mark.{Mark}
use Rattle.source_forms.specs.declared.mark.Mark.TheVariants.{Code}
use Rattle.source_forms.specs.Pieces.{is_flagged}
use Rattle.source_forms.specs.Labels.{flagged_within, no_flags, no_labels}

pub found : (flags : List Bool) (left at : ℕ) → 0 < left → is_flagged flags at ≡ true
    → flagged_within flags left at ≡ true
unfolding flagged_within
found flags zero at some h = absurd (omega (arith, some))
found flags (suc n) at some h = rw h refl

pub goes_on : (flags : List Bool) (left at : ℕ) → 0 < left → is_flagged flags at ≡ false
    → flagged_within flags left at ≡ flagged_within flags (left - 1) (at + 1)
unfolding flagged_within
goes_on flags zero at some h = absurd (omega (arith, some))
goes_on flags (suc n) at some h = let one : suc n - 1 ≡ n = omega arith in rw (h, one) refl

pub none : (flags : List Bool) (at : ℕ) → flagged_within flags 0 at ≡ false
unfolding flagged_within
none flags at = refl

-- an instruction's stretch begins with its first byte
pub some_code : (cells : List (Option ℕ)) (marks : List Mark) (a b : ℕ) → cell_at cells a ≡ Some b → kind_of (mark_at marks a) b ≡ Code
    → 0 < length (stretch cells marks Code 3 a)
unfolding stretch
some_code cells marks a b here kind = rw (here, kind) (omega arith)

-- the words hide a size, which no proof computes
pub flags_are : (n : ℕ) → n ≡ 65536 → replicate {A = Bool} n false ≡ no_flags
unfolding no_flags
flags_are n e = ap (λ (k : ℕ). replicate {A = Bool} k false) e

pub labels_are : (n : ℕ) → n ≡ 65536 → replicate {A = ℕ} n 0 ≡ no_labels
unfolding no_labels
labels_are n e = ap (λ (k : ℕ). replicate {A = ℕ} k 0) e
