-- A stretch, a byte at a time.
use Rattle.std.proofs.Common.{◌≡◌, ℕ, zero, suc, ◌+◌, ◌-◌, ◌<◌, List, [], ◌∷◌, ◌++◌, length, Option, sym, ap, ◌∙◌, arith, append_assoc, append-nil}
use Rattle.model.specs.Image.{cell_at}
use Rattle.source_forms.specs.Rows.{stretch, byte_before, is_kind, kind_of, mark_at}
use Rattle.source_forms.specs.declared.mark.Mark.{Mark}

-- what a byte adds to a stretch
abbrev pub Adds : List (Option ℕ) → List Mark → Mark → ℕ → (List ℕ → List ℕ) → Type 0
Adds cells marks kind at added = (rest : List ℕ) → byte_before (cell_at cells at) (λ b. is_kind kind (kind_of (mark_at marks at) b)) rest ≡ added rest

pub more : (cells : List (Option ℕ)) (marks : List Mark) (kind : Mark) (left at b : ℕ) (all bytes : List ℕ)
    → all ≡ bytes ++ stretch cells marks kind left at → 0 < left → Adds cells marks kind at (λ rest. b ∷ rest)
    → all ≡ (bytes ++ b ∷ []) ++ stretch cells marks kind (left - 1) (at + 1)
unfolding stretch
more cells marks kind zero at b all bytes so_far some adds = absurd (omega (arith, some))
more cells marks kind (suc n) at b all bytes so_far some adds =
    let one : suc n - 1 ≡ n = omega arith in
    rw (one, append_assoc) (so_far ∙ ap (λ (x : List ℕ). bytes ++ x) (adds (stretch cells marks kind n (at + 1))))

pub ended : (cells : List (Option ℕ)) (marks : List Mark) (kind : Mark) (left at : ℕ) (all bytes : List ℕ)
    → all ≡ bytes ++ stretch cells marks kind left at → 0 < left → Adds cells marks kind at (λ rest. []) → bytes ≡ all
unfolding stretch
ended cells marks kind zero at all bytes so_far some adds = absurd (omega (arith, some))
ended cells marks kind (suc n) at all bytes so_far some adds =
    sym (so_far ∙ ap (λ (x : List ℕ). bytes ++ x) (adds (stretch cells marks kind n (at + 1))) ∙ append-nil bytes)

pub none : (cells : List (Option ℕ)) (marks : List Mark) (kind : Mark) (left at : ℕ) (all bytes : List ℕ)
    → all ≡ bytes ++ stretch cells marks kind left at → left ≡ 0 → bytes ≡ all
unfolding stretch
none cells marks kind left at all bytes so_far zero_left = sym (rw (zero_left, append-nil) at so_far)
