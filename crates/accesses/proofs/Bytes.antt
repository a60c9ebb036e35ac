-- Bytes that are put at addresses, one after another.
use Rattle.std.proofs.Common.{◌≡◌, ◌∙◌, ℕ, zero, suc, ◌+◌, ◌<◌, Bool, true, false, true≢false, List, [], ◌∷◌, ◌++◌, length, drop, get_or, map, replicate, refl, sym, ap, add-one, drop-cons, arith, subst}
use Rattle.std.specs.Prelude.{Option, None, Some, cond, is_none, slice_set}
use Rattle.std.proofs.lemmas.List.{get_or-map, length-map, map-set}
use Rattle.accesses.specs.Writing.{AreMarks, bytes_in, everywhere, is_unmarked, is_written, with_bytes}

-- One of some addresses, and the others.
pub bytes_on : (cells next : List Bool) (i : ℕ) (xs : List ℕ) → i < length xs → next ≡ slice_set cells (get_or xs i 0) true
    → with_bytes next (drop (i + 1) xs) ≡ with_bytes cells (drop i xs)
unfolding with_bytes
bytes_on cells next i xs h e =
    let d : drop i xs ≡ get_or xs i 0 ∷ drop (i + 1) xs = rw (add-one, drop-cons xs i 0) refl in
    ap (λ u. with_bytes u (drop (i + 1) xs)) e ∙ sym (ap (with_bytes cells) d)

pub bytes_none : (cells : List Bool) (xs : List ℕ) → xs ≡ [] → with_bytes cells xs ≡ cells
unfolding with_bytes
bytes_none cells xs e = ap (with_bytes cells) e

-- Some addresses, and then others.
pub bytes_both : (cells : List Bool) (xs ys : List ℕ) → with_bytes (with_bytes cells xs) ys ≡ with_bytes cells (xs ++ ys)
unfolding with_bytes
bytes_both cells [] ys = refl
bytes_both cells (x ∷ xs) ys = bytes_both (slice_set cells x true) xs ys

-- The numeral is met here alone.
pub everywhere_is : (n : ℕ) → n ≡ 65536 → replicate n true ≡ everywhere
unfolding everywhere
everywhere_is n e = ap (λ (k : ℕ). replicate {A = Bool} k true) e

-- ---- marks

abbrev pub mark_of : Option ℕ → ℕ
mark_of cell = cond (is_none cell) 1 0

-- the marks of an image
pub marks_in : (image : List (Option ℕ)) → map is_unmarked (map mark_of image) ≡ bytes_in image
marks_in [] = refl
marks_in (None ∷ image) = ap (λ cells. false ∷ cells) (marks_in image)
marks_in (Some byte ∷ image) = ap (λ cells. true ∷ cells) (marks_in image)

pub unmarked : (marks : List ℕ) (address : ℕ) → map is_unmarked (slice_set marks address 0) ≡ slice_set (map is_unmarked marks) address true
unmarked marks address = map-set is_unmarked marks address 0

pub marked : (marks : List ℕ) (address : ℕ) → map is_unmarked (slice_set marks address 1) ≡ slice_set (map is_unmarked marks) address false
marked marks address = map-set is_unmarked marks address 1

pub are_marks : (marks : List ℕ) → AreMarks marks (map is_unmarked marks)
are_marks marks = λ address within. get_or-map is_unmarked marks address 0 false (subst (λ n. address < n) (length-map marks is_unmarked) within)

pub unmarked_all : (n : ℕ) → map is_unmarked (replicate n 0) ≡ replicate n true
unmarked_all zero = refl
unmarked_all (suc n) = ap (λ cells. true ∷ cells) (unmarked_all n)

-- ---- what is written already

-- a byte where there is one, or at no address at all
pub set_written : (cells : List Bool) (address : ℕ) → (address < length cells → is_written cells address ≡ true) → slice_set cells address true ≡ cells
set_written [] address is = refl
set_written (cell ∷ cells) zero is = ap (λ c. c ∷ cells) (sym (is (omega arith)))
set_written (cell ∷ cells) (suc address) is = ap (λ rest. cell ∷ rest) (set_written cells address (λ within. is (omega (arith, within))))

-- a byte that was forgotten for a time
pub set_again : (cells : List Bool) (address : ℕ) → is_written cells address ≡ true → slice_set (slice_set cells address false) address true ≡ cells
set_again [] address is = absurd (true≢false (sym is))
set_again (cell ∷ cells) zero is = ap (λ c. c ∷ cells) (sym is)
set_again (cell ∷ cells) (suc address) is = ap (λ rest. cell ∷ rest) (set_again cells address is)

-- what is written with one byte forgotten is another byte, and was written
pub still_written : (cells : List Bool) (gone address : ℕ) → is_written (slice_set cells gone false) address ≡ true → is_written cells address ≡ true
still_written [] gone address is = is
still_written (cell ∷ cells) zero zero is = absurd (true≢false (sym is))
still_written (cell ∷ cells) zero (suc address) is = is
still_written (cell ∷ cells) (suc gone) zero is = is
still_written (cell ∷ cells) (suc gone) (suc address) is = still_written cells gone address is

pub not_forgotten : (cells : List Bool) (gone : ℕ) → is_written (slice_set cells gone false) gone ≡ false
not_forgotten [] gone = refl
not_forgotten (cell ∷ cells) zero = refl
not_forgotten (cell ∷ cells) (suc gone) = not_forgotten cells gone
