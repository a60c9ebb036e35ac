-- How many records of a text put a byte at an address, by what is noted at its places.
use Rattle.std.proofs.Common.{◌≡◌, ℕ, zero, suc, ◌+◌, ◌*◌, ◌<◌, ◌≤◌, ◌==◌, true, List, [], ◌∷◌, ◌++◌, cond, length, drop, get_or, Option, None, refl, sym, ap, ◌∙◌, arith, add-one, append_assoc, drop-cons, zero-add}
use Rattle.std.specs.List.{list_all, AllByRecursion}
use Rattle.std.proofs.lemmas.Bool.{and_parts}
use Rattle.std.proofs.lemmas.Bool.Decides.{nat_tests}
use Rattle.std.proofs.lemmas.List.{at_drop_all}
use Rattle.std.proofs.lemmas.List.FromFn.{fill_by_all}
use Rattle.model.specs.Digits.{is_hex_byte}
use Rattle.model.specs.Tape.{AreAllDigits, Part, gap, record_of, IsPiece, claim_of, front_of, is_skipped, TapeDenotes}
use Rattle.word_info.specs.Overlaps.{AreNoted, cell_from, covered, covered_by, pair_at, with_place, writes_at, written_again, written_at}
use Rattle.word_info.proofs.Noted.{recounted}
use Rattle.word_info.proofs.Semicolons.{no_digit, no_gap}

-- 1 where a byte of a text begins a record that puts a byte at an address
abbrev begun_by : ℕ → List ℕ → ℕ → ℕ
begun_by b text a = cond (b == 59) (covered_by text a) 0

abbrev writes_in : List ℕ → ℕ → ℕ
writes_in [] a = 0
writes_in (b ∷ text) a = begun_by b text a + writes_in text a

-- ---- by the pieces of a tape

in_digits : (ds rest : List ℕ) (a : ℕ) → list_all is_hex_byte ds ≡ true → writes_in (ds ++ rest) a ≡ writes_in rest a
in_digits [] rest a h = refl
in_digits (d ∷ ds) rest a h =
    let p = and_parts (is_hex_byte d) (list_all is_hex_byte ds) h in
    rw (no_digit d p.0) (zero-add (writes_in (ds ++ rest) a) ∙ in_digits ds rest a p.1)

in_skipped : (bytes : List ℕ) (a : ℕ) → list_all is_skipped bytes ≡ true → writes_in bytes a ≡ 0
in_skipped [] a h = refl
in_skipped (b ∷ bytes) a h =
    let p = and_parts (is_skipped b) (list_all is_skipped bytes) h in
    rw (no_gap b p.0) (zero-add (writes_in bytes a) ∙ in_skipped bytes a p.1)

-- the length and the address of a record by its digits
claimed : (ds rest : List ℕ) → AreAllDigits ds → ((claim_of ds).length ≡ pair_at (ds ++ rest) 0)
    × ((claim_of ds).address ≡ pair_at (ds ++ rest) 2 * 256 + pair_at (ds ++ rest) 4)
unfolding claim_of
claimed [] rest h = absurd (omega (arith, h.1))
claimed (a ∷ []) rest h = absurd (omega (arith, h.1))
claimed (a ∷ b ∷ []) rest h = absurd (omega (arith, h.1))
claimed (a ∷ b ∷ c ∷ []) rest h = absurd (omega (arith, h.1))
claimed (a ∷ b ∷ c ∷ d ∷ []) rest h = absurd (omega (arith, h.1))
claimed (a ∷ b ∷ c ∷ d ∷ e ∷ []) rest h = absurd (omega (arith, h.1))
claimed (a ∷ b ∷ c ∷ d ∷ e ∷ f ∷ ds) rest h = (refl, refl)

record_writes : (ds rest : List ℕ) (a : ℕ) → AreAllDigits ds
    → writes_in (59 ∷ ds ++ rest) a ≡ covered (claim_of ds).address (claim_of ds).length a + writes_in rest a
record_writes ds rest a h =
    let says = claimed ds rest h in
    let claim : covered_by (ds ++ rest) a ≡ covered (claim_of ds).address (claim_of ds).length a = rw (says.0, says.1) refl in
    let more = in_digits ds rest a h.0 in
    omega (arith, claim, more)

in_front : (ps : List Part) (rest : List ℕ) (a : ℕ) → AllByRecursion IsPiece ps → writes_in (front_of ps ++ rest) a ≡ writes_at ps a + writes_in rest a
in_front [] rest a h = omega arith
in_front (gap b ∷ ps) rest a h = rw (no_gap b h.0) (zero-add (writes_in (front_of ps ++ rest) a) ∙ in_front ps rest a h.1)
in_front (record_of ds ∷ ps) rest a h =
    let apart : writes_in (59 ∷ (ds ++ front_of ps) ++ rest) a ≡ writes_in (59 ∷ ds ++ (front_of ps ++ rest)) a =
    ap (λ (t : List ℕ). writes_in (59 ∷ t) a) (append_assoc ds (front_of ps) rest) in
    let here = record_writes ds (front_of ps ++ rest) a h.0.all in
    let more = in_front ps rest a h.1 in
    omega (arith, apart, here, more)

none_covered : (first count a : ℕ) → count ≡ 0 → covered first count a ≡ 0
none_covered first count a none = rw none (by first a)
  where
    by : (first a : ℕ) → covered first 0 a ≡ 0
    by first a = grind (arith, nat_tests)

pub in_tape : (text : List ℕ) (cells : List (Option ℕ)) (tape : TapeDenotes text cells) (a : ℕ) → writes_in text a ≡ writes_at tape.pieces a
in_tape text cells tape a =
    let whole : writes_in text a ≡ writes_in (front_of tape.pieces ++ (59 ∷ tape.digits ++ tape.tail)) a = ap (λ (t : List ℕ). writes_in t a) tape.spelled in
    let front = in_front tape.pieces (59 ∷ tape.digits ++ tape.tail) a tape.each in
    let end = record_writes tape.digits tape.tail a tape.end.all in
    let none = none_covered (claim_of tape.digits).address (claim_of tape.digits).length a tape.end.none in
    let rest = in_skipped tape.tail a tape.rest in
    omega (arith, whole, front, end, none, rest)

-- ---- place by place

-- how many of the records before a place
abbrev pub writes_before : List ℕ → ℕ → ℕ → ℕ
writes_before text zero a = 0
writes_before text (suc place) a = writes_before text place a + written_at text place a

at_place : (text : List ℕ) (place a : ℕ) → place < length text → writes_in (drop place text) a ≡ written_at text place a + writes_in (drop (suc place) text) a
at_place text place a inside =
    let cut : drop place text ≡ get_or text place 0 ∷ drop (suc place) text = drop-cons text place 0 inside in
    let next : drop (place + 1) text ≡ drop (suc place) text = ap (λ (n : ℕ). drop n text) (add-one place) in
    let split = ap (λ (t : List ℕ). writes_in t a) cut in
    let same : written_at text place a ≡ begun_by (get_or text place 0) (drop (suc place) text) a =
    ap (λ (t : List ℕ). begun_by (get_or text place 0) t a) next in
    omega (arith, split, same)

pub before_place : (text : List ℕ) (place a : ℕ) → place ≤ length text → writes_before text place a + writes_in (drop place text) a ≡ writes_in text a
before_place text zero a h = zero-add (writes_in text a)
before_place text (suc place) a h =
    let inside : place < length text = omega (arith, h) in
    let here = at_place text place a inside in
    let before = before_place text place a (omega (arith, h)) in
    omega (arith, here, before)

before_all : (text : List ℕ) (place a : ℕ) → place ≡ length text → writes_before text place a ≡ writes_in text a
before_all text place a end =
    let before = before_place text place a (omega (arith, end)) in
    let none : writes_in (drop place text) a ≡ 0 = at_drop_all (λ (t : List ℕ). writes_in t a) text place (omega (arith, end)) in
    omega (arith, before, none)

-- all places were noted
pub noted_all : (text : List ℕ) (once again : List (Option ℕ)) (place : ℕ) → place ≡ length text → AreNoted once again (writes_before text place)
    → (cells : List (Option ℕ)) (tape : TapeDenotes text cells) → again ≡ written_again tape.pieces
unfolding written_again
noted_all text once again place end noted cells tape =
    fill_by_all (λ a. cell_from 2 (writes_at tape.pieces a)) again 65536 None noted.again_size
    (λ a h. noted.second a h ∙ ap (cell_from 2) (before_all text place a end ∙ in_tape text cells tape a))

-- one place more
pub next_place : (text : List ℕ) (once again : List (Option ℕ)) (place : ℕ) → AreNoted once again (with_place (writes_before text place) text place)
    → AreNoted once again (writes_before text (place + 1))
next_place text once again place noted = recounted once again (with_place (writes_before text place) text place) (writes_before text (place + 1))
    noted (λ a h. ap (λ (k : ℕ). writes_before text k a) (sym (add-one place)))
