-- What is noted of the records of a tape, a byte, a record and a place at a time.
use Rattle.std.proofs.Common.{◌≡◌, ◌≢◌, ◌⊎◌, ℕ, suc, ◌+◌, ◌-◌, ◌*◌, ◌<◌, ◌≤◌, ◌==◌, Bool, true, false, List, drop, length, min, slice_index, add-zero, Option, Some, None, Ok, is_some, replicate, refl, sym, ap, subst, ◌∙◌, arith, inl, inr, get_or, get_or-set_other, get_or-set_same}
use Rattle.std.specs.Prelude.{slice_set}
use Rattle.std.proofs.lemmas.List.{get_or-replicate, get_or_past, length-replicate, length-set}
use Rattle.std.proofs.lemmas.Bool.{cases_Bool, eqb-true}
use Rattle.std.proofs.lemmas.Bool.Decides.{nat_tests, leb_tells}
use Rattle.model.specs.Image.{cell_at, empty_image}
use Rattle.image_reader.specs.Texts.{text_overlaps}
use Rattle.image_reader.specs.declared.form.TextForm.{TextForm}
use Rattle.word_info.specs.Facts.{ranges_of}
use Rattle.word_info.specs.declared.ranges.Range.{Range}
use Rattle.word_info.specs.Overlaps.{AreNoted, AreTextOverlaps, cell_from, covered, pair_at, with_bytes, with_cell_if, with_digits, with_place}

abbrev Cells : Type 0
Cells = List (Option ℕ)

-- the same numbers are noted by the same images
pub recounted : (once again : Cells) (n m : ℕ → ℕ) → AreNoted once again n → ((a : ℕ) → a < 65536 → n a ≡ m a) → AreNoted once again m
recounted once again n m noted same = record {
  once_size = noted.once_size;
  again_size = noted.again_size;
  first = λ a h. noted.first a h ∙ ap (cell_from 1) (same a h);
  second = λ a h. noted.second a h ∙ ap (cell_from 2) (same a h);
}

-- ---- which addresses bytes cover

covered_same : (a : ℕ) → covered a 1 a ≡ 1
covered_same a = grind (arith, nat_tests)

covered_other : (address a : ℕ) → a ≢ address → covered address 1 a ≡ 0
covered_other address a apart = grind (arith, nat_tests)

pub covered_none : (first count a : ℕ) → count ≡ 0 → covered first count a ≡ 0
covered_none first count a none = grind (arith, nat_tests)

-- from an address to before another, and the byte there
pub covered_more : (first past a : ℕ) → first ≤ past → covered first (past - first) a + covered past 1 a ≡ covered first (past + 1 - first) a
covered_more first past a order = grind (arith, nat_tests)

-- bytes from an address on, as far as there are addresses
pub covered_below : (first count past a : ℕ) → first ≤ 65535 → past ≡ 65536 → past < first + count → a < 65536
    → covered first (past - first) a ≡ covered first count a
covered_below first count past a low is more h = grind (arith, nat_tests)

-- ---- a byte

cell_yes : (least n : ℕ) → least ≤ n → cell_from least n ≡ Some 0
cell_yes least n h = elim (leb_tells least n) [
  | inl t ↦ rw t.0 refl
  | inr f ↦ absurd (omega (arith, f.1, h))
]

cell_no : (least n : ℕ) → n < least → cell_from least n ≡ None
cell_no least n h = elim (leb_tells least n) [
  | inl t ↦ absurd (omega (arith, t.1, h))
  | inr f ↦ rw f.0 refl
]

put_twice : (again : Cells) (n a : ℕ) (seen : Bool) → a < 65536 → length again ≡ 65536 → cell_at again a ≡ cell_from 2 n
    → seen ≡ is_some (cell_from 1 n) → cell_at (with_cell_if again a seen) a ≡ cell_from 2 (n + 1)
put_twice again n a true below size old seen = elim (leb_tells 1 n) [
  | inl t ↦ get_or-set_same again a (Some 0) None (omega (arith, size, below)) ∙ sym (cell_yes 2 (n + 1) (omega (arith, t.1)))
  | inr f ↦ let none : true ≡ false = seen ∙ ap (λ (c : Option ℕ). is_some c) (cell_no 1 n f.1) in absurd cc
]
put_twice again n a false below size old seen = elim (leb_tells 1 n) [
  | inl t ↦ let some : false ≡ true = seen ∙ ap (λ (c : Option ℕ). is_some c) (cell_yes 1 n t.1) in absurd cc
  | inr f ↦ old ∙ cell_no 2 n (omega (arith, f.1)) ∙ sym (cell_no 2 (n + 1) (omega (arith, f.1)))
]

put_apart : (again : Cells) (address a : ℕ) (seen : Bool) → a ≢ address → cell_at (with_cell_if again address seen) a ≡ cell_at again a
put_apart again address a true apart = get_or-set_other again address a (Some 0) None apart
put_apart again address a false apart = refl

put_size : (again : Cells) (address : ℕ) (seen : Bool) → length (with_cell_if again address seen) ≡ length again
put_size again address true = length-set again address (Some 0)
put_size again address false = refl

same_or_not : (a b : ℕ) → (a ≡ b) ⊎ (a ≢ b)
same_or_not a b = elim (leb_tells a b) [
  | inl t ↦ elim (leb_tells b a) [
    | inl u ↦ inl (omega (arith, t.1, u.1))
    | inr f ↦ inr (λ e. omega (arith, e, f.1))
  ]
  | inr f ↦ inr (λ e. omega (arith, e, f.1))
]

first_here : (once : Cells) (n : ℕ → ℕ) (address a : ℕ) → a < 65536 → length once ≡ 65536 → cell_at once a ≡ cell_from 1 (n a) → (a ≡ address)
    ⊎ (a ≢ address) → cell_at (slice_set once address (Some 0)) a ≡ cell_from 1 (with_bytes n address 1 a)
first_here once n address a below size old (inl e) =
    let one : covered address 1 a ≡ 1 = subst (λ (x : ℕ). covered x 1 a ≡ 1) e (covered_same a) in
    subst (λ (x : ℕ). cell_at (slice_set once x (Some 0)) a ≡ cell_from 1 (n a + covered address 1 a)) e
    (get_or-set_same once a (Some 0) None (omega (arith, size, below)) ∙ sym (cell_yes 1 (n a + covered address 1 a) (omega (arith, one))))
first_here once n address a below size old (inr apart) =
    let none = covered_other address a apart in
    let same : n a ≡ n a + covered address 1 a = omega (arith, none) in
    get_or-set_other once address a (Some 0) None apart ∙ old ∙ ap (cell_from 1) same

second_here : (again : Cells) (n : ℕ → ℕ) (address a : ℕ) (seen : Bool) → a < 65536 → length again ≡ 65536 → cell_at again a ≡ cell_from 2 (n a)
    → seen ≡ is_some (cell_from 1 (n address)) → (a ≡ address) ⊎ (a ≢ address)
    → cell_at (with_cell_if again address seen) a ≡ cell_from 2 (with_bytes n address 1 a)
second_here again n address a seen below size old was (inl e) =
    let one : covered address 1 a ≡ 1 = subst (λ (x : ℕ). covered x 1 a ≡ 1) e (covered_same a) in
    let more : n a + 1 ≡ n a + covered address 1 a = omega (arith, one) in
    subst (λ (x : ℕ). cell_at (with_cell_if again x seen) a ≡ cell_from 2 (n a + covered address 1 a)) e
    (put_twice again (n a) a seen below size old (was ∙ ap (λ (x : ℕ). is_some (cell_from 1 (n x))) (sym e)) ∙ ap (cell_from 2) more)
second_here again n address a seen below size old was (inr apart) =
    let none = covered_other address a apart in
    let same : n a ≡ n a + covered address 1 a = omega (arith, none) in
    put_apart again address a seen apart ∙ old ∙ ap (cell_from 2) same

pub noted_byte : (once again new_once new_again : Cells) (n : ℕ → ℕ) (address : ℕ) (seen : Bool) → address < 65536
    → seen ≡ is_some (cell_at once address) → new_once ≡ slice_set once address (Some 0) → new_again ≡ with_cell_if again address seen
    → AreNoted once again n → AreNoted new_once new_again (with_bytes n address 1)
noted_byte once again new_once new_again n address seen below was put_once put_again noted =
    let was_noted : seen ≡ is_some (cell_from 1 (n address)) = was ∙ ap (λ (c : Option ℕ). is_some c) (noted.first address below) in
    record {
      once_size = ap (λ (x : Cells). length x) put_once ∙ length-set once address (Some 0) ∙ noted.once_size;
      again_size = ap (λ (x : Cells). length x) put_again ∙ put_size again address seen ∙ noted.again_size;
      first = λ a h. ap (λ (x : Cells). cell_at x a) put_once ∙ first_here once n address a h noted.once_size (noted.first a h) (same_or_not a address);
      second = λ a h. ap (λ (x : Cells). cell_at x a) put_again
          ∙ second_here again n address a seen h noted.again_size (noted.second a h) was_noted (same_or_not a address);
    }

-- ---- several bytes

pub none_noted : (once again : Cells) (n : ℕ → ℕ) (first : ℕ) → AreNoted once again n → AreNoted once again (with_bytes n first (first - first))
none_noted once again n first noted = recounted once again n (with_bytes n first (first - first)) noted
    (λ a h. let none = covered_none first (first - first) a (omega arith) in omega (arith, none))

pub one_noted : (once again : Cells) (n : ℕ → ℕ) (first address : ℕ) → first ≤ address
    → AreNoted once again (with_bytes (with_bytes n first (address - first)) address 1) → AreNoted once again (with_bytes n first (address + 1 - first))
one_noted once again n first address order noted =
    recounted once again (with_bytes (with_bytes n first (address - first)) address 1) (with_bytes n first (address + 1 - first)) noted
    (λ a h. let more = covered_more first address a order in omega (arith, more))

pub all_noted : (once again : Cells) (n : ℕ → ℕ) (first address past : ℕ) → address ≡ past
    → AreNoted once again (with_bytes n first (address - first)) → AreNoted once again (with_bytes n first (past - first))
all_noted once again n first address past end noted = subst (λ (x : ℕ). AreNoted once again (with_bytes n first (x - first))) end noted

-- as far as there are addresses
pub below_noted : (once again : Cells) (n : ℕ → ℕ) (first count past : ℕ) → first ≤ 65535 → (past ≡ first + count)
    ⊎ ((past ≡ 65536) × (past < first + count)) → AreNoted once again (with_bytes n first (past - first)) → AreNoted once again (with_bytes n first count)
below_noted once again n first count past low (inl all) noted =
    let same : past - first ≡ count = omega (arith, all) in
    subst (λ (x : ℕ). AreNoted once again (with_bytes n first x)) same noted
below_noted once again n first count past low (inr cut) noted =
    recounted once again (with_bytes n first (past - first)) (with_bytes n first count) noted
    (λ a h. let same = covered_below first count past a low cut.0 cut.1 h in omega (arith, same))

-- ---- no byte

empty_is : (n : ℕ) → n ≡ 65536 → replicate {A = Option ℕ} n None ≡ empty_image
unfolding empty_image
empty_is n e = ap (λ (k : ℕ). replicate {A = Option ℕ} k None) e

none_at : (n a : ℕ) → get_or (replicate {A = Option ℕ} n None) a None ≡ None
none_at n a = elim (leb_tells (suc a) n) [
  | inl inside ↦ get_or-replicate n a None None inside.1
  | inr past ↦ get_or_past (replicate {A = Option ℕ} n None) a None (omega (arith, past.1, length-replicate {A = Option ℕ} n None))
]

empty_at : (a n : ℕ) → n ≡ 65536 → cell_at empty_image a ≡ None
empty_at a n e = sym (ap (λ (cells : Cells). cell_at cells a) (empty_is n e)) ∙ none_at n a

pub nothing_noted : (once again : Cells) → once ≡ empty_image → again ≡ empty_image → length once ≡ 65536 → length again ≡ 65536 → AreNoted once again (λ a. 0)
nothing_noted once again one two once_size again_size = record {
  once_size = once_size;
  again_size = again_size;
  first = λ a h. ap (λ (x : Cells). cell_at x a) one ∙ empty_at a 65536 refl ∙ sym (cell_no 1 0 (omega arith));
  second = λ a h. ap (λ (x : Cells). cell_at x a) two ∙ empty_at a 65536 refl ∙ sym (cell_no 2 0 (omega arith));
}

-- ---- a record

-- an end of addresses
pub cut_at : (n past : ℕ) → past ≡ min n 65536 → (past ≡ n) ⊎ ((past ≡ 65536) × (past < n))
cut_at n past e = elim (leb_tells n 65536) [
  | inl t ↦ inl (omega (arith, e, t.1))
  | inr f ↦ inr (omega (arith, e, f.1), omega (arith, e, f.1))
]

pub by_digits : (once again : Cells) (n : ℕ → ℕ) (digits : List ℕ) (high low count : ℕ) → high ≡ pair_at digits 2 → low ≡ pair_at digits 4
    → count ≡ pair_at digits 0
    → AreNoted once again (with_bytes n (high * 256 + low) count) → AreNoted once again (with_digits n digits)
by_digits once again n digits high low count is_high is_low is_count noted =
    recounted once again (with_bytes n (high * 256 + low) count) (with_digits n digits) noted (λ a h. rw (is_high, is_low, is_count) refl)

-- a record begins at a place, or none
pub written_there : (once again : Cells) (n : ℕ → ℕ) (text digits : List ℕ) (place : ℕ) → slice_index text place ≡ 59 → digits ≡ drop (place + 1) text
    → AreNoted once again (with_digits n digits) → AreNoted once again (with_place n text place)
written_there once again n text digits place begins is noted =
    recounted once again (with_digits n digits) (with_place n text place) noted (λ a h. rw (begins, is) refl)

pub unwritten : (once again : Cells) (n : ℕ → ℕ) (text : List ℕ) (place : ℕ) → slice_index text place ≢ 59 → AreNoted once again n
    → AreNoted once again (with_place n text place)
unwritten once again n text place other noted = elim (cases_Bool (slice_index text place == 59)) [
  | inl t ↦ absurd (other (eqb-true _ _ t))
  | inr f ↦ recounted once again n (with_place n text place) noted (λ a h. rw f (sym (add-zero (n a))))
]

-- ---- texts of Intel HEX and of S-records

pub text_ranges : (form : TextForm) (text : List ℕ) (again : List (Option ℕ)) (overlaps : List Range) → text_overlaps form text ≡ Ok again
    → overlaps ≡ ranges_of again → AreTextOverlaps form text overlaps
text_ranges form text again overlaps read are = (again, read, are)
