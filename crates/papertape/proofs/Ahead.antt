-- Where the writer goes on after a piece, and after cells with nothing.
use Rattle.std.proofs.Common.{◌≡◌, ℕ, zero, suc, ◌+◌, ◌-◌, ◌<◌, ◌≤◌, List, [], ◌∷◌, ◌++◌, length, take, drop, set, Option, Some, None, is_some, true, false, refl, sym, ap, subst, ◌∙◌, arith, append_assoc, length-drop}
use Rattle.std.proofs.lemmas.List.{take_more_set, drop-drop}
use Rattle.model.specs.TapeText.{Stretch}
use Rattle.papertape.specs.Writing.{front_bytes, cuts, first_cell, ComesNext}
use Rattle.papertape.proofs.Cuts.{front_short}

-- the cells from an address on, by the one that stands first
pub drop_first : (cells : List (Option ℕ)) (i : ℕ) → i < length cells → drop i cells ≡ first_cell (drop i cells) ∷ drop (i + 1) cells
drop_first [] i h = absurd (omega arith)
drop_first (c ∷ cells) zero h = refl
drop_first (c ∷ cells) (suc i) h =
    let e : suc i + 1 ≡ suc (i + 1) = omega arith in
    rw e (drop_first cells i (omega arith))

-- the same, where the first cell is a byte
first_some : (cells : List (Option ℕ)) (i b : ℕ) → first_cell (drop i cells) ≡ Some b → drop i cells ≡ Some b ∷ drop (i + 1) cells
first_some [] zero b e = absurd cc
first_some [] (suc i) b e = absurd cc
first_some (c ∷ cells) zero b e = ap (λ (x : Option ℕ). x ∷ cells) e
first_some (c ∷ cells) (suc i) b e =
    let k : suc i + 1 ≡ suc (i + 1) = omega arith in
    rw k (first_some cells i b e)

-- covered cells are passed
covered_ahead : (n : ℕ) (cells : List (Option ℕ)) (a : ℕ) → n ≤ length cells → cuts a n cells ≡ cuts (a + n) 0 (drop n cells)
covered_ahead zero cells a h = ap (λ k. cuts k 0 cells) (omega arith)
covered_ahead (suc n) [] a h = absurd (omega arith)
covered_ahead (suc n) (c ∷ cells) a h = covered_ahead n cells (a + 1) (omega arith) ∙ ap (λ k. cuts k 0 (drop n cells)) (omega arith)

-- a cell with nothing is passed
none_ahead : (cells : List (Option ℕ)) (i : ℕ) → i < length cells → first_cell (drop i cells) ≡ None
    → cuts i 0 (drop i cells) ≡ cuts (i + 1) 0 (drop (i + 1) cells)
none_ahead cells i h e =
    ap (cuts i 0) (drop_first cells i h) ∙ ap (λ (c : Option ℕ). cuts i 0 (c ∷ drop (i + 1) cells)) e

-- a piece begins at a byte
some_ahead : (cells : List (Option ℕ)) (i b from : ℕ) → length cells ≡ 65536 → i < 65536 → from ≤ i → first_cell (drop i cells) ≡ Some b
    → cuts from 0 (drop from cells) ≡ cuts i 0 (drop i cells)
    → ComesNext cells from (i, front_bytes 24 (drop i cells))
some_ahead cells i b from len lt le e same =
    let r : List (Option ℕ) = drop (i + 1) cells in
    let f : List ℕ = front_bytes 23 r in
    let whole : drop i cells ≡ Some b ∷ r = first_some cells i b e in
    let short = front_short 23 r in
    let left : length r ≡ length cells - (i + 1) = length-drop (i + 1) cells in
    let on : cuts (i + 1) (length f) r ≡ cuts (i + length (b ∷ f)) 0 (drop (i + length (b ∷ f)) cells) =
    covered_ahead (length f) r (i + 1) short
    ∙ ap (cuts (i + 1 + length f) 0) (drop-drop (length f) (i + 1) cells)
    ∙ ap (λ (k : ℕ). cuts k 0 (drop k cells)) (omega arith) in
    let next : ComesNext cells from (i, b ∷ f) = record {
      cut = same ∙ ap (cuts i 0) whole ∙ ap (λ (ps : List Stretch). (i, b ∷ f) ∷ ps) on;
      some = omega arith;
      ahead = le;
      inside = omega (arith, short, left, len, lt);
    } in
    subst (λ (bs : List ℕ). ComesNext cells from (i, bs)) (sym (ap (front_bytes 24) whole)) next

-- one byte more is copied
pub copied_more : (cells : List (Option ℕ)) (bytes : List ℕ) (a i b : ℕ) → i < length bytes → i < 24 → first_cell (drop (a + i) cells) ≡ Some b
    → take i bytes ++ front_bytes (24 - i) (drop (a + i) cells) ≡ take (i + 1) (set bytes i b) ++ front_bytes (24 - (i + 1)) (drop (a + (i + 1)) cells)
copied_more cells bytes a i b len lt e =
    let m = 24 - (i + 1) in
    let r : List (Option ℕ) = drop (a + i + 1) cells in
    let one : 24 - i ≡ suc m = omega (arith, lt) in
    let whole : drop (a + i) cells ≡ Some b ∷ r = first_some cells (a + i) b e in
    let taken : take (i + 1) (set bytes i b) ≡ take i bytes ++ b ∷ [] = take_more_set bytes i b len in
    ap (λ (n : ℕ). take i bytes ++ front_bytes n (drop (a + i) cells)) one
    ∙ ap (λ (x : List (Option ℕ)). take i bytes ++ front_bytes (suc m) x) whole
    ∙ sym (append_assoc (take i bytes) (b ∷ []) (front_bytes m r))
    ∙ ap (λ (x : List ℕ). x ++ front_bytes m r) (sym taken)
    ∙ ap (λ (k : ℕ). take (i + 1) (set bytes i b) ++ front_bytes m (drop k cells)) (omega arith)

-- no byte follows
pub copied_all : (n : ℕ) (cells : List (Option ℕ)) → first_cell cells ≡ None → front_bytes n cells ≡ []
copied_all zero cells e = refl
copied_all (suc n) [] e = refl
copied_all (suc n) (None ∷ cells) e = refl
copied_all (suc n) (Some b ∷ cells) e = absurd cc

-- the same two, by the test of the code
pub starts : (cells : List (Option ℕ)) (o : Option ℕ) (i from : ℕ) → length cells ≡ 65536 → i < 65536 → from ≤ i → o ≡ first_cell (drop i cells)
    → is_some o ≡ true → cuts from 0 (drop from cells) ≡ cuts i 0 (drop i cells)
    → ComesNext cells from (i, front_bytes 24 (drop i cells))
starts cells (Some b) i from len lt le e is same = some_ahead cells i b from len lt le (sym e) same
starts cells None i from len lt le e is same = absurd cc

pub passes : (cells : List (Option ℕ)) (o : Option ℕ) (i : ℕ) → i < length cells → o ≡ first_cell (drop i cells) → is_some o ≡ false
    → cuts i 0 (drop i cells) ≡ cuts (i + 1) 0 (drop (i + 1) cells)
passes cells None i lt e is = none_ahead cells i lt (sym e)
passes cells (Some b) i lt e is = absurd cc
