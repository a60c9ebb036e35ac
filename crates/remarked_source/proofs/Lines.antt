-- Lines with what stands beside them, one after another.
use Rattle.std.proofs.Common.{◌≡◌, ◌∙◌, ℕ, zero, suc, ◌+◌, ◌<◌, ◌≤◌, List, [], ◌∷◌, ◌++◌, length, drop, Option, Some, None, append_assoc, append-nil, add-one, arith, ap, drop_of_length-le}
use Rattle.std.specs.Prelude.{slice_get}
use Rattle.assembler.specs.Lines.{LineView}
use Rattle.remarked_source.specs.Rows.{Beside, behind, rows_from, rows_of}

pub cut : (ls : List LineView) (i : ℕ) (l : LineView) → slice_get ls i ≡ Some l → drop i ls ≡ l ∷ drop (suc i) ls
cut [] i l e = absurd cc
cut (x ∷ ls) zero l e = let same : x ≡ l = cc in ap (λ (y : LineView). y ∷ ls) same
cut (x ∷ ls) (suc i) l e = cut ls i l e

-- each line below the count is there
pub there : (ls : List LineView) (i : ℕ) → i < length ls → slice_get ls i ≡ None → ⊥
there [] i h e = omega (arith, h)
there (x ∷ ls) zero h e = cc
there (x ∷ ls) (suc i) h e = there ls i (omega (arith, h)) e

pub line_more : (b : Beside) (image : List (Option ℕ)) (from i : ℕ) (ls : List LineView) (l : LineView) (out new whole : List ℕ)
    → slice_get ls i ≡ Some l → new ≡ out ++ rows_of b image from l
    → out ++ rows_from b image from (drop i ls) ≡ whole → new ++ rows_from b image (behind from l) (drop (i + 1) ls) ≡ whole
unfolding rows_from
line_more b image from i ls l out new whole is put w =
    rw (put, add-one) (append_assoc out (rows_of b image from l) (rows_from b image (behind from l) (drop (suc i) ls)) ∙ rw (cut ls i l is) at w)

pub lines_end : (b : Beside) (image : List (Option ℕ)) (from i : ℕ) (ls : List LineView) (out : List ℕ) → length ls ≤ i
    → out ++ rows_from b image from (drop i ls) ≡ out
unfolding rows_from
lines_end b image from i ls out h = rw (drop_of_length-le ls h) (append-nil out)
