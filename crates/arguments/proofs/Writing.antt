-- One piece after another.
use Rattle.std.proofs.Common.{◌≡◌, ℕ, ◌+◌, List, Option, sym, take, drop, length, take-append-drop, take-add, length-drop, arith, ◌-◌}
use Rattle.std.proofs.lemmas.List.{take_all}
use Rattle.std.specs.Io.KnownBytes.{Appends}
use Rattle.std.proofs.KnownBytes.{Appends-trans}
use Rattle.model.specs.Writers.{AppendsFront}

-- n more bytes after the first i, of what is left of them
pub Appends-step : (a b c : Option (List ℕ)) (bs : List ℕ) (i n : ℕ) → Appends a b (take i bs)
    → Appends b c (take n (take (length bs - i) (drop i bs))) → Appends a c (take (i + n) bs)
Appends-step a b c bs i n p q =
    let left : take (length bs - i) (drop i bs) ≡ drop i bs = take_all (length bs - i) (drop i bs) (omega (arith, length-drop i bs)) in
    rw (take-add i n bs) (Appends-trans a b c (take i bs) (take n (drop i bs)) p (rw left at q))

-- the first i bytes are a beginning
pub front_at : (a b : Option (List ℕ)) (bs : List ℕ) (i : ℕ) → Appends a b (take i bs) → AppendsFront a b bs
front_at a b bs i p = (take i bs, drop i bs, sym (take-append-drop i bs), p)
