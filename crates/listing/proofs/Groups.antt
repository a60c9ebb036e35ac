-- The rows of further bytes, a group at a time.
use Rattle.std.proofs.Common.{◌≡◌, ℕ, ◌+◌, ◌<◌, List, [], ◌∷◌, ◌++◌, length, take, drop, min, refl, sym, ap, ◌∙◌, append_assoc, append-nil, arith, take-append-drop}
use Rattle.std.proofs.Math.Seq.{take-append_seam}
use Rattle.model.specs.Listing.{group_row, group_rows}

-- the first group and the rows after it
pub next_group : (at : ℕ) (bytes : List ℕ) → 0 < length bytes
    → group_rows at bytes ≡ group_row at (take (min (length bytes) 3) bytes) ++ group_rows (at + 3) (drop (min (length bytes) 3) bytes)
next_group at [] some = absurd (omega (arith, some))
next_group at (a ∷ []) some = sym (append-nil (group_row at (a ∷ [])))
next_group at (a ∷ b ∷ []) some = sym (append-nil (group_row at (a ∷ b ∷ [])))
next_group at (a ∷ b ∷ c ∷ bytes) some = let three : min (length (a ∷ b ∷ c ∷ bytes)) 3 ≡ 3 = omega arith in rw three refl

pub no_group : (at : ℕ) (bytes : List ℕ) → length bytes ≡ 0 → group_rows at bytes ≡ []
no_group at [] none = refl
no_group at (a ∷ bytes) none = absurd (omega (arith, none))

-- a turn of the loop
pub goes_on : (out new : List ℕ) (at next : ℕ) (rest group behind total : List ℕ) → 0 < length rest → out ++ group_rows at rest ≡ total
    → group ≡ take (min (length rest) 3) rest → behind ≡ drop (min (length rest) 3) rest
    → next ≡ at + 3 → new ≡ out ++ group_row at group → new ++ group_rows next behind ≡ total
goes_on out new at next rest group behind total some so_far is left place put =
    rw (put, is, left, place) (append_assoc out (group_row at (take (min (length rest) 3) rest))
    (group_rows (at + 3) (drop (min (length rest) 3) rest)) ∙ ap (λ (x : List ℕ). out ++ x) (sym (next_group at rest some)) ∙ so_far)

-- what was kept of a text is kept on
pub kept_on : (old mid new : List ℕ) → take (length old) mid ≡ old → take (length mid) new ≡ mid → take (length old) new ≡ old
kept_on old mid new p q =
    let m : mid ≡ old ++ drop (length old) mid = sym (take-append-drop (length old) mid) ∙ ap (λ (l : List ℕ). l ++ drop (length old) mid) p in
    let n : new ≡ mid ++ drop (length mid) new = sym (take-append-drop (length mid) new) ∙ ap (λ (l : List ℕ). l ++ drop (length mid) new) q in
    ap (take (length old)) (n ∙ ap (λ (l : List ℕ). l ++ drop (length mid) new) m ∙ append_assoc old (drop (length old) mid) (drop (length mid) new))
    ∙ take-append_seam old (drop (length old) mid ++ drop (length mid) new)
