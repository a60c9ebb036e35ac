-- The first line of some kind, looked for from the first one on.
use Rattle.std.proofs.Common.{◌≡◌, ◌∙◌, ℕ, suc, ◌+◌, ◌≤◌, List, length, drop, Bool, true, false, Option, Some, None, refl, ap, sym, add-one, drop_of_length-le}
use Rattle.std.specs.Prelude.{find, slice_get}
use Rattle.assembler.specs.Lines.{LineView}
use Rattle.remarked_source.proofs.Lines.{cut}

pub found_here : (p : LineView → Bool) (ls : List LineView) (i : ℕ) (l : LineView) (whole : Option LineView) → slice_get ls i ≡ Some l → p l ≡ true
    → find p (drop i ls) ≡ whole → Some l ≡ whole
found_here p ls i l whole is holds so_far = let here : find p (drop i ls) ≡ Some l = ap (find p) (cut ls i l is) ∙ rw holds refl in sym here ∙ so_far

pub found_more : (p : LineView → Bool) (ls : List LineView) (i : ℕ) (l : LineView) (whole : Option LineView) → slice_get ls i ≡ Some l → p l ≡ false
    → find p (drop i ls) ≡ whole → find p (drop (i + 1) ls) ≡ whole
found_more p ls i l whole is other so_far =
    let next : find p (drop i ls) ≡ find p (drop (suc i) ls) = ap (find p) (cut ls i l is) ∙ rw other refl in
    rw add-one (sym next ∙ so_far)

pub none_left : (p : LineView → Bool) (ls : List LineView) (i : ℕ) (whole : Option LineView) → length ls ≤ i → find p (drop i ls) ≡ whole → None ≡ whole
none_left p ls i whole past so_far = sym (ap (find p) (drop_of_length-le ls past)) ∙ so_far
