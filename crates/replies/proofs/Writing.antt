-- One piece after another.
use Rattle.std.proofs.Common.{◌≡◌, ℕ, ◌+◌, ◌≤◌, List, ◌++◌, Option, Result, Ok, Err, sym, take, drop, length, take-append-drop, take-add, length-drop, arith, ◌-◌}
use Rattle.std.proofs.lemmas.List.{take_all}
use Rattle.std.specs.Io.KnownBytes.{Appends}
use Rattle.std.proofs.KnownBytes.{Appends-trans}
use Rattle.model.specs.Writers.{AppendsFront, Writes}
use Rattle.model.proofs.Written.{front_after}

-- n more bytes after the first i, of what is left of them
pub Appends-step : (a b c : Option (List ℕ)) (bs : List ℕ) (i n : ℕ) → Appends a b (take i bs)
    → Appends b c (take n (take (length bs - i) (drop i bs))) → Appends a c (take (i + n) bs)
Appends-step a b c bs i n p q =
    let left : take (length bs - i) (drop i bs) ≡ drop i bs = take_all (length bs - i) (drop i bs) (omega (arith, length-drop i bs)) in
    rw (take-add i n bs) (Appends-trans a b c (take i bs) (take n (drop i bs)) p (rw left at q))

-- the first i bytes are a beginning
pub front_at : (a b : Option (List ℕ)) (bs : List ℕ) (i : ℕ) → Appends a b (take i bs) → AppendsFront a b bs
front_at a b bs i p = (take i bs, drop i bs, sym (take-append-drop i bs), p)

pub whole : (a b : Option (List ℕ)) (bs : List ℕ) (i : ℕ) → length bs ≤ i → Appends a b (take i bs) → Appends a b bs
whole a b bs i le p = rw (take_all i bs le) at p

-- a text and then what a call wrote
pub Writes-then : {X E : Type 0} (a b c : Option (List ℕ)) (xs ys : List ℕ) (r : Result X E) → Appends a b xs → Writes b c ys r → Writes a c (xs ++ ys) r
Writes-then a b c xs ys (Ok x) p q = Appends-trans a b c xs ys p q
Writes-then a b c xs ys (Err e) p q = front_after a b c xs ys p q
