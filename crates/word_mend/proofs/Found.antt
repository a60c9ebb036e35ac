-- What is found of a text where something is wrong.
use Rattle.std.proofs.Common.{◌≡◌, ◌≢◌, ◌<◌, ◌≤◌, ◌+◌, ◌-◌, ◌++◌, ◌∙◌, ℕ, Result, Ok, Err, OnOk, append_assoc, Bool, true, false, List, [], ◌∷◌, drop, length, slice_index, if◌then◌else◌, ◌==◌, refl, sym, ap, inl, inr, arith, add-one, drop-cons}
use Rattle.std.specs.Prelude.{is_ok}
use Rattle.std.proofs.lemmas.Bool.{cases_Bool}
use Rattle.std.proofs.lemmas.Bool.Decides.{eqb_tells, leb_tells}
use Rattle.std.specs.List.{list_any}
use Rattle.std.proofs.Math.ListN.{drop_of_length-le}
use Rattle.model.specs.Tape.{is_skipped}
use Rattle.word_mend.specs.Mending.{is_kept}
use Rattle.word_mend.specs.Reported.{ends_before, last_record, place_from, within_from}

cut : (bytes : List ℕ) (i : ℕ) → i < length bytes → drop i bytes ≡ slice_index bytes i ∷ drop (i + 1) bytes
cut bytes i h = rw (add-one, drop-cons bytes i 0) refl

-- ---- bytes within records

not_skipped : (b : ℕ) → is_kept b ≡ true → is_skipped b ≡ false
not_skipped b kept = elim (cases_Bool (is_skipped b)) [
  | inl t ↦ let none : false ≡ true = rw t at kept in absurd cc
  | inr f ↦ f
]

skipped_if : (b : ℕ) → is_kept b ≡ false → is_skipped b ≡ true
skipped_if b gone = elim (cases_Bool (is_skipped b)) [
  | inl t ↦ t
  | inr f ↦ let none : true ≡ false = rw f at gone in absurd cc
]

of_data : (skipped b : ℕ) (rest : List ℕ) → is_kept b ≡ true → b ≢ 59 → within_from skipped (b ∷ rest) ≡ skipped + within_from 0 rest
unfolding within_from
of_data skipped b rest kept other = elim (eqb_tells b 59) [
  | inl e ↦ absurd (other e.1)
  | inr e ↦ rw (not_skipped b kept, e.0) refl
]

of_begin : (skipped b : ℕ) (rest : List ℕ) → is_kept b ≡ true → b ≡ 59 → within_from skipped (b ∷ rest) ≡ within_from 0 rest
unfolding within_from
of_begin skipped b rest kept same = elim (eqb_tells b 59) [
  | inl e ↦ rw (not_skipped b kept, e.0) refl
  | inr e ↦ absurd (e.1 same)
]

of_skipped : (skipped b : ℕ) (rest : List ℕ) → is_kept b ≡ false → within_from skipped (b ∷ rest) ≡ within_from (skipped + 1) rest
unfolding within_from
of_skipped skipped b rest gone = rw (skipped_if b gone) refl

module _ (text : List ℕ) (i within skipped whole : ℕ) (there : i < length text) (so_far : within + within_from skipped (drop i text) ≡ whole) where
  here : within + within_from skipped (slice_index text i ∷ drop (i + 1) text) ≡ whole
  here = rw (cut text i there) at so_far

  pub after_data : (now left : ℕ) → is_kept (slice_index text i) ≡ true → slice_index text i ≢ 59 → now ≡ within + skipped → left ≡ 0
      → now + within_from left (drop (i + 1) text) ≡ whole
  after_data now left kept other n l =
      let step = of_data skipped (slice_index text i) (drop (i + 1) text) kept other in
      rw (n, l) (omega (arith, step, here))

  pub after_begin : (now left : ℕ) → is_kept (slice_index text i) ≡ true → slice_index text i ≡ 59 → now ≡ within → left ≡ 0
      → now + within_from left (drop (i + 1) text) ≡ whole
  after_begin now left kept same n l =
      rw (n, l) (ap (λ (more : ℕ). within + more) (sym (of_begin skipped (slice_index text i) (drop (i + 1) text) kept same)) ∙ here)

  pub after_skipped : (now left : ℕ) → is_kept (slice_index text i) ≡ false → now ≡ within → left ≡ skipped + 1
      → now + within_from left (drop (i + 1) text) ≡ whole
  after_skipped now left gone n l =
      rw (n, l) (ap (λ (more : ℕ). within + more) (sym (of_skipped skipped (slice_index text i) (drop (i + 1) text) gone)) ∙ here)

pub none_within : (text : List ℕ) (i within skipped whole : ℕ) → length text ≤ i → within + within_from skipped (drop i text) ≡ whole → within ≡ whole
unfolding within_from
none_within text i within skipped whole past so_far =
    let ended : drop i text ≡ [] = drop_of_length-le text past in
    let last : within + 0 ≡ whole = rw ended at so_far in
    omega (arith, last)

-- ---- the last record

abbrev has_more : List ℕ → Bool
has_more rest = list_any (λ b. b == 59) rest

-- the last record, if it is this one where no other begins in the rest
abbrev pub later : List ℕ → List ℕ → List ℕ
later found rest = if has_more rest then last_record rest else found

pub from_start : (bytes : List ℕ) → later bytes bytes ≡ last_record bytes
unfolding last_record
from_start [] = refl
from_start (b ∷ bytes) = elim (eqb_tells b 59) [
  | inl e ↦ rw e.0 refl
  | inr e ↦ elim (cases_Bool (has_more bytes)) [
    | inl t ↦ rw (e.0, t) refl
    | inr f ↦ rw (e.0, f) refl
  ]
]

begins : (found : List ℕ) (b : ℕ) (rest : List ℕ) → b ≡ 59 → later found (b ∷ rest) ≡ later (b ∷ rest) rest
unfolding last_record
begins found b rest same = elim (eqb_tells b 59) [
  | inl e ↦ rw e.0 refl
  | inr e ↦ absurd (e.1 same)
]

goes_on : (found : List ℕ) (b : ℕ) (rest : List ℕ) → b ≢ 59 → later found (b ∷ rest) ≡ later found rest
unfolding last_record
goes_on found b rest other = elim (eqb_tells b 59) [
  | inl e ↦ absurd (other e.1)
  | inr e ↦ elim (cases_Bool (has_more rest)) [
    | inl t ↦ rw (e.0, t) refl
    | inr f ↦ rw (e.0, f) refl
  ]
]

module _ (bytes : List ℕ) (i last : ℕ) (whole : List ℕ) (there : i < length bytes) (so_far : later (drop last bytes) (drop i bytes) ≡ whole) where
  at_byte : later (drop last bytes) (slice_index bytes i ∷ drop (i + 1) bytes) ≡ whole
  at_byte = rw (cut bytes i there) at so_far

  pub one_more : (now : ℕ) → slice_index bytes i ≡ 59 → now ≡ i → later (drop now bytes) (drop (i + 1) bytes) ≡ whole
  one_more now same n = rw (n, cut bytes i there) (sym (begins (drop last bytes) (slice_index bytes i) (drop (i + 1) bytes) same) ∙ at_byte)

  pub the_same : (now : ℕ) → slice_index bytes i ≢ 59 → now ≡ last → later (drop now bytes) (drop (i + 1) bytes) ≡ whole
  the_same now other n = rw n (sym (goes_on (drop last bytes) (slice_index bytes i) (drop (i + 1) bytes) other) ∙ at_byte)

pub found_last : (bytes : List ℕ) (i last : ℕ) (whole : List ℕ) → length bytes ≤ i → later (drop last bytes) (drop i bytes) ≡ whole → drop last bytes ≡ whole
found_last bytes i last whole past so_far =
    let ended : drop i bytes ≡ [] = drop_of_length-le bytes past in
    rw ended at so_far

-- ---- four texts, one after another

pub four_put : {X E : Type 0} (result : Result X E) (old one two three new first second third fourth : List ℕ) → one ≡ old ++ first → two ≡ one ++ second
    → three ≡ two ++ third → new ≡ (if is_ok result then three ++ fourth else three) → OnOk result (new ≡ old ++ (first ++ (second ++ (third ++ fourth))))
four_put (Ok done) old one two three new first second third fourth f s t is =
    is ∙ rw (t, s, f) (append_assoc ((old ++ first) ++ second) third fourth
    ∙ (append_assoc (old ++ first) second (third ++ fourth) ∙ append_assoc old first (second ++ (third ++ fourth))))
four_put (Err fault) old one two three new first second third fourth f s t is = tt

-- ---- the place of a fault

module _ (left : ℕ) (is_first : Bool) (place : ℕ) (b : ℕ) (text : List ℕ) where
  abbrev ends : ℕ
  ends = ends_before is_first b

  of_reached : is_kept b ≡ true → left ≤ ends → place_from left is_first place (b ∷ text) ≡ place
  unfolding place_from
  of_reached keep few = elim (leb_tells left ends) [
    | inl t ↦ rw (keep, t.0) refl
    | inr f ↦ absurd (omega (arith, few, f.1))
  ]

  of_passed : is_kept b ≡ true → ends < left → place_from left is_first place (b ∷ text) ≡ place_from (left - (ends + 1)) false (place + 1) text
  unfolding place_from
  of_passed keep more = elim (leb_tells left ends) [
    | inl t ↦ absurd (omega (arith, more, t.1))
    | inr f ↦ rw (keep, f.0) refl
  ]

  of_gap : is_kept b ≡ false → place_from left is_first place (b ∷ text) ≡ place_from left is_first (place + 1) text
  unfolding place_from
  of_gap gone = rw gone refl

module _ (text : List ℕ) (left : ℕ) (is_first : Bool) (place whole : ℕ) (there : place < length text)
    (so_far : place_from left is_first place (drop place text) ≡ whole) where
  from_here : place_from left is_first place (slice_index text place ∷ drop (place + 1) text) ≡ whole
  from_here = rw (cut text place there) at so_far

  pub place_reached : is_kept (slice_index text place) ≡ true → left ≤ ends_before is_first (slice_index text place) → place ≡ whole
  place_reached keep few = sym (of_reached left is_first place (slice_index text place) (drop (place + 1) text) keep few) ∙ from_here

  pub place_passed : (now : ℕ) (first : Bool) → is_kept (slice_index text place) ≡ true → ends_before is_first (slice_index text place) < left
      → now ≡ left - (ends_before is_first (slice_index text place) + 1) → first ≡ false → place_from now first (place + 1) (drop (place + 1) text) ≡ whole
  place_passed now first keep more n f = rw (n, f) (sym (of_passed left is_first place (slice_index text place) (drop (place + 1) text) keep more) ∙ from_here)

  pub place_skipped : (now : ℕ) (first : Bool) → is_kept (slice_index text place) ≡ false → now ≡ left → first ≡ is_first
      → place_from now first (place + 1) (drop (place + 1) text) ≡ whole
  place_skipped now first gone n f = rw (n, f) (sym (of_gap left is_first place (slice_index text place) (drop (place + 1) text) gone) ∙ from_here)

pub place_at_end : (text : List ℕ) (left : ℕ) (is_first : Bool) (place whole : ℕ) → length text ≤ place → place ≤ length text
    → place_from left is_first place (drop place text) ≡ whole → length text ≡ whole
unfolding place_from
place_at_end text left is_first place whole past within so_far =
    let ended : drop place text ≡ [] = drop_of_length-le text past in
    let at : place ≡ whole = rw ended at so_far in
    omega (arith, past, within, at)
