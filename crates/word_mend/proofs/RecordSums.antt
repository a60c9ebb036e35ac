-- When the checksum of a record alone is wrong.
use Rattle.std.proofs.Common.{◌≡◌, ◌≢◌, ◌∙◌, ℕ, zero, suc, ◌+◌, ◌-◌, ◌*◌, ◌/◌, ◌%◌, ◌<◌, ◌≤◌, ◌&&◌, ◌==◌, Bool, true, false, not, List, [], ◌∷◌, drop, length, slice_index, sum, take, Option, None, Some, is_some, Result, Ok, Err, inl, inr, refl, sym, ap, arith}
use Rattle.std.specs.Prelude.{if◌then◌else◌, nat_lt}
use Rattle.std.specs.List.{list_all, prefix_len}
use Rattle.std.proofs.lemmas.Bool.{and_from, and_parts, cases_Bool, eq-eqb, eqb-true, ltb-false, ltb-true, ne_eqb}
use Rattle.std.proofs.lemmas.Bool.Decides.{eqb_tells}
use Rattle.hex.specs.Hex.{decode_of}
use Rattle.hex.specs.declared.error.FromHexError.{FromHexError}
use Rattle.papertape.proofs.Digits.{decode_pairs-digits, length-bytes_of}
use Rattle.model.specs.Digits.{digit_value, is_hex_byte}
use Rattle.model.specs.Tape.{bytes_of_digits}
use Rattle.image_reader.specs.HexRecords.{after_hex, data_len, hex_line}
use Rattle.image_reader.specs.Progress.{Progress, start, stored}
use Rattle.image_reader.specs.Records.{◌>>=◌, record_bytes, record_digits, stop_of, wanted}
use Rattle.image_reader.specs.SRecords.{address_of, after_s, by_role, data_of, kind_of, one_more, s_digits, s_line}
use Rattle.image_reader.specs.declared.fault.LineFault.{LineFault}
use Rattle.image_reader.specs.declared.form.TextForm.TheVariants.{Hex, SRecord}
use Rattle.image_reader.specs.declared.s_records.Role.{Role}
use Rattle.image_reader.specs.declared.s_records.Role.TheVariants.{Header, Data, Count, End}
use Rattle.image_reader.proofs.Sizes.{all_pass}
use Rattle.word_mend.specs.RecordMending.{checksums_if, is_bad_checksum, is_sum_fault, wrong_sum}
use Rattle.word_mend.specs.RecordParts.{are_pairs, is_type, is_whole}
use Rattle.word_mend.specs.declared.checksums.Checksums.{Checksums}

no_truth : true ≡ false → ⊥
no_truth e = cc

-- ---- the digits of a record

stopped : (count : ℕ) (digits : List ℕ) → is_bad_checksum (stop_of count digits) ≡ false
stopped count digits = elim (cases_Bool (count == length digits)) [
  | inl t ↦ rw t refl
  | inr f ↦ rw f refl
]

prefix_all : (p : ℕ → Bool) (xs : List ℕ) → list_all p xs ≡ true → prefix_len p xs ≡ length xs
prefix_all p [] all = refl
prefix_all p (x ∷ xs) all =
    let both = and_parts (p x) (list_all p xs) all in
    let rest = prefix_all p xs both.1 in
    rw both.0 (omega (arith, rest))

-- digits that are no whole record
module _ (front extra total : ℕ) (digits : List ℕ) where
  abbrev hex_len : ℕ
  hex_len = prefix_len is_hex_byte digits

  abbrev size : ℕ
  size = wanted extra digits

  not_all : (length digits ≡ size → list_all is_hex_byte digits ≡ true → ⊥) → is_sum_fault (record_bytes front extra total digits) ≡ false
  unfolding record_bytes record_digits
  not_all other = elim (cases_Bool (nat_lt hex_len size)) [
    | inl t ↦ rw t (stopped hex_len digits)
    | inr f ↦ elim (cases_Bool (nat_lt size (length digits))) [
      | inl t ↦ rw (f, t) refl
      | inr g ↦
          let least = ltb-false hex_len size f in
          let most = ltb-false size (length digits) g in
          let all = all_pass is_hex_byte digits (omega (arith, least, most)) in
          let full = prefix_all is_hex_byte digits all in
          absurd (other (omega (arith, least, most, full)) all)
    ]
  ]

  all_there : length digits ≡ size → list_all is_hex_byte digits ≡ true
      → is_sum_fault (record_bytes front extra total digits) ≡ not (sum (bytes_of_digits digits) % 256 == total)
  unfolding record_bytes record_digits
  all_there sized all =
      let full = prefix_all is_hex_byte digits all in
      elim (cases_Bool (nat_lt hex_len size)) [
        | inl t ↦ absurd (let less = ltb-true hex_len size t in omega (arith, less, full, sized))
        | inr f ↦ elim (cases_Bool (nat_lt size (length digits))) [
          | inl t ↦ absurd (let less = ltb-true size (length digits) t in omega (arith, less, sized))
          | inr g ↦ elim (cases_Bool (sum (bytes_of_digits digits) % 256 == total)) [
            | inl t ↦ rw (f, g, t) refl
            | inr n ↦ rw (f, g, n) refl
          ]
        ]
      ]

even_size : (extra : ℕ) (digits : List ℕ) → wanted extra digits % 2 ≡ 0
even_size extra [] = refl
even_size extra (d ∷ []) = refl
even_size extra (high ∷ low ∷ digits) = omega arith

sized : (extra : ℕ) (digits : List ℕ) → length digits % 2 ≡ 0 → is_whole extra (bytes_of_digits digits) ≡ true → length digits ≡ wanted extra digits
sized extra [] even is = absurd cc
sized extra (d ∷ []) even is = absurd cc
sized extra (high ∷ low ∷ digits) even is =
    let half = length-bytes_of digits (length digits / 2) (omega (arith, even)) in
    let counted = eqb-true (length (bytes_of_digits (high ∷ low ∷ digits))) (extra + (digit_value high * 16 + digit_value low)) is in
    omega (arith, half, counted, even)

not_sized : (extra : ℕ) (digits : List ℕ) → length digits % 2 ≡ 0 → is_whole extra (bytes_of_digits digits) ≡ false → length digits ≡ wanted extra digits → ⊥
not_sized extra [] even is same = omega (arith, same)
not_sized extra (d ∷ []) even is same = omega (arith, same)
not_sized extra (high ∷ low ∷ digits) even is same =
    let half = length-bytes_of digits (length digits / 2) (omega (arith, even)) in
    elim (eqb_tells (length (bytes_of_digits (high ∷ low ∷ digits))) (extra + (digit_value high * 16 + digit_value low))) [
      | inl t ↦ no_truth (sym t.0 ∙ is)
      | inr f ↦ f.1 (omega (arith, half, same, even))
    ]

-- ---- what the code finds by the digits

module _ (front extra total : ℕ) (digits : List ℕ) where
  abbrev found : Option Checksums
  found = checksums_if (is_sum_fault (record_bytes front extra total digits)) total (bytes_of_digits digits)

  none_if : is_sum_fault (record_bytes front extra total digits) ≡ false → None ≡ found
  none_if none = rw none refl

  are_pairs_if : length digits ≡ wanted extra digits → list_all is_hex_byte digits ≡ true → are_pairs digits ≡ true
  are_pairs_if size all =
      let even = even_size extra digits in
      and_from (length digits % 2 == 0) (list_all is_hex_byte digits) (eq-eqb (length digits % 2) 0 (omega (arith, size, even))) all

  pub no_pairs : are_pairs digits ≡ false → None ≡ found
  no_pairs none = none_if (not_all front extra total digits (λ size all. no_truth (sym (are_pairs_if size all) ∙ none)))

  module _ (bytes : List ℕ) (pairs : are_pairs digits ≡ true) (are : bytes ≡ bytes_of_digits digits) where
    even : length digits % 2 ≡ 0
    even = eqb-true (length digits % 2) 0 (and_parts (length digits % 2 == 0) (list_all is_hex_byte digits) pairs).0

    hex : list_all is_hex_byte digits ≡ true
    hex = (and_parts (length digits % 2 == 0) (list_all is_hex_byte digits) pairs).1

    pub no_record : is_whole extra bytes ≡ false → None ≡ found
    no_record none = none_if (not_all front extra total digits (λ size all. not_sized extra digits even (sym (ap (is_whole extra) are) ∙ none) size))

    pub whole_record : is_whole extra bytes ≡ true → checksums_if (not (sum bytes % 256 == total)) total bytes ≡ found
    whole_record is =
        let size = sized extra digits even (sym (ap (is_whole extra) are) ∙ is) in
        rw (are, all_there front extra total digits size hex) refl

abbrev decode_ok : List ℕ → Result (List ℕ) FromHexError
decode_ok bytes = Ok bytes

same_bytes : (xs ys : List ℕ) → decode_ok xs ≡ decode_ok ys → xs ≡ ys
same_bytes xs ys e = cc

-- pairs of hex digits are decoded
pub decoded : (digits bytes : List ℕ) → are_pairs digits ≡ true → decode_of digits ≡ Ok bytes → bytes ≡ bytes_of_digits digits
decoded digits bytes pairs is =
    let both = and_parts (length digits % 2 == 0) (list_all is_hex_byte digits) pairs in
    let even = eqb-true (length digits % 2) 0 both.0 in
    let all : decode_of digits ≡ Ok (bytes_of_digits digits) =
    rw (ne_eqb (length digits % 2) 1 (λ e. omega (arith, e, even)), decode_pairs-digits 0 digits (length digits / 2) (omega (arith, even)) both.1) refl in
    same_bytes bytes (bytes_of_digits digits) (sym is ∙ all)

-- ---- a line

either : {A : Type 0} (b : Bool) (x y : Result A LineFault) → is_sum_fault x ≡ false → is_sum_fault y ≡ false → is_sum_fault (if b then x else y) ≡ false
either true x y p q = p
either false x y p q = q

-- what a step does afterwards has no wrong checksum
after : {A B : Type 0} (r : Result A LineFault) (f : A → Result B LineFault) → ((x : A) → is_sum_fault (f x) ≡ false) → is_sum_fault (r >>= f) ≡ is_sum_fault r
after (Ok x) f none = none x
after (Err e) f none = refl

stored_right : (column address : ℕ) (bytes : List ℕ) (s : Progress) → is_sum_fault (stored column address bytes s) ≡ false
unfolding stored
stored_right column address bytes s = either (nat_lt 0 (length bytes) && nat_lt 65536 (address + length bytes)) _ _ refl refl

hex_right : (s : Progress) (bytes : List ℕ) → is_sum_fault (after_hex s bytes) ≡ false
unfolding after_hex
hex_right s bytes =
    let kind = slice_index bytes 3 in
    either (kind == 0) _ _ (stored_right 4 _ _ s)
    (either (kind == 1) _ _ (either (data_len bytes == 0) _ _ refl refl)
    (either (kind == 2) _ _ (either (data_len bytes == 2) _ _ refl refl)
    (either (kind == 3) _ _ (either (data_len bytes == 4) _ _ refl refl)
    (either (kind == 4) _ _ (either (data_len bytes == 2) _ _ refl refl)
    (either (kind == 5) _ _ (either (data_len bytes == 4) _ _ refl refl) refl)))))

pub hex_marked : (digits : List ℕ) → checksums_if (is_sum_fault (record_bytes 1 5 0 digits)) 0 (bytes_of_digits digits) ≡ wrong_sum Hex (58 ∷ digits)
unfolding wrong_sum hex_line
hex_marked digits = ap (λ (b : Bool). checksums_if b 0 (bytes_of_digits digits))
    (sym (after (record_bytes 1 5 0 digits) (after_hex (start Hex)) (hex_right (start Hex))))

pub hex_unmarked : (mark : ℕ) (digits : List ℕ) → mark ≢ 58 → None ≡ wrong_sum Hex (mark ∷ digits)
unfolding wrong_sum hex_line
hex_unmarked mark digits other = rw (ne_eqb mark 58 other) refl

pub hex_empty : None ≡ wrong_sum Hex []
unfolding wrong_sum hex_line
hex_empty = refl

role_right : (role : Role) (address : ℕ) (bytes : List ℕ) (s : Progress) → is_sum_fault (by_role role address bytes s) ≡ false
role_right Header address bytes s = refl
role_right Data address bytes s = after (stored 5 address bytes s) (λ t. Ok (one_more t)) (λ t. refl) ∙ stored_right 5 address bytes s
role_right Count address bytes s = either (length bytes == 0) _ _ (either (address == s.count) _ _ refl refl) refl
role_right End address bytes s = either (length bytes == 0) _ _ refl refl

s_right : (role : Role) (width : ℕ) (s : Progress) (bytes : List ℕ) → is_sum_fault (after_s role width s bytes) ≡ false
unfolding after_s
s_right role width s bytes = either (nat_lt (slice_index bytes 0) (width + 1)) _ _ refl (role_right role (address_of width bytes) (data_of width bytes) s)

typed : (s : Progress) (digits : List ℕ) (kind : Option (Role × ℕ)) → is_some kind ≡ true
    → is_sum_fault (s_digits s digits kind) ≡ is_sum_fault (record_bytes 2 1 255 digits)
typed s digits None is = absurd cc
typed s digits (Some kind) is = after (record_bytes 2 1 255 digits) (after_s kind.0 kind.1 s) (s_right kind.0 kind.1 s)

untyped : (s : Progress) (digits : List ℕ) (kind : Option (Role × ℕ)) → is_some kind ≡ false → is_sum_fault (s_digits s digits kind) ≡ false
untyped s digits None is = refl
untyped s digits (Some kind) is = absurd cc

pub s_marked : (digit : ℕ) (digits : List ℕ) → is_type digit ≡ true
    → checksums_if (is_sum_fault (record_bytes 2 1 255 digits)) 255 (bytes_of_digits digits) ≡ wrong_sum SRecord (83 ∷ digit ∷ digits)
unfolding wrong_sum s_line
s_marked digit digits is = ap (λ (b : Bool). checksums_if b 255 (bytes_of_digits digits)) (sym (typed (start SRecord) digits (kind_of digit) is))

pub s_unmarked : (mark digit : ℕ) (digits : List ℕ) → mark ≢ 83 → None ≡ wrong_sum SRecord (mark ∷ digit ∷ digits)
unfolding wrong_sum s_line
s_unmarked mark digit digits other = rw (ne_eqb mark 83 other) refl

pub s_untyped : (mark digit : ℕ) (digits : List ℕ) → is_type digit ≡ false → None ≡ wrong_sum SRecord (mark ∷ digit ∷ digits)
unfolding wrong_sum s_line
s_untyped mark digit digits none = elim (eqb_tells mark 83) [
  | inl e ↦ rw (e.0, untyped (start SRecord) digits (kind_of digit) none) refl
  | inr e ↦ rw e.0 refl
]

pub s_empty : None ≡ wrong_sum SRecord []
unfolding wrong_sum s_line
s_empty = refl

pub s_short : (mark : ℕ) → None ≡ wrong_sum SRecord (mark ∷ [])
unfolding wrong_sum s_line
s_short mark = elim (eqb_tells mark 83) [
  | inl e ↦ rw e.0 refl
  | inr e ↦ rw e.0 refl
]

pub hex_short : (mark : ℕ) → None ≡ wrong_sum Hex (mark ∷ [])
unfolding wrong_sum hex_line record_bytes record_digits
hex_short mark = elim (eqb_tells mark 58) [
  | inl e ↦ rw e.0 refl
  | inr e ↦ rw e.0 refl
]

-- ---- the same by places in the line

taken : (line : List ℕ) (n : ℕ) → n ≡ length line → take n line ≡ line
taken [] n all = rw all refl
taken (b ∷ line) zero all = absurd (omega (arith, all))
taken (b ∷ line) (suc n) all = ap (λ (t : List ℕ). b ∷ t) (taken line n (omega (arith, all)))

pub hex_none : (line : List ℕ) → length line < 1 → None ≡ wrong_sum Hex line
hex_none [] few = hex_empty
hex_none (b ∷ line) few = absurd (omega (arith, few))

pub hex_there : (line : List ℕ) → 1 ≤ length line → slice_index line 0 ≡ 58
    → checksums_if (is_sum_fault (record_bytes 1 5 0 (take (length line - 1) (drop 1 line)))) 0
    (bytes_of_digits (take (length line - 1) (drop 1 line))) ≡ wrong_sum Hex line
hex_there [] some is = absurd (omega (arith, some))
hex_there (b ∷ line) some is = rw (is, taken line (length (b ∷ line) - 1) (omega arith)) (hex_marked line)

pub s_none : (line : List ℕ) → length line < 1 → None ≡ wrong_sum SRecord line
s_none [] few = s_empty
s_none (b ∷ line) few = absurd (omega (arith, few))

pub s_one : (line : List ℕ) → 1 ≤ length line → length line < 2 → None ≡ wrong_sum SRecord line
s_one [] some few = absurd (omega (arith, some))
s_one (b ∷ []) some few = s_short b
s_one (b ∷ c ∷ line) some few = absurd (omega (arith, few))

pub s_there : (line : List ℕ) → 2 ≤ length line → slice_index line 0 ≡ 83 → is_type (slice_index line 1) ≡ true
    → checksums_if (is_sum_fault (record_bytes 2 1 255 (take (length line - 2) (drop 2 line)))) 255
    (bytes_of_digits (take (length line - 2) (drop 2 line))) ≡ wrong_sum SRecord line
s_there [] some is there = absurd (omega (arith, some))
s_there (b ∷ []) some is there = absurd (omega (arith, some))
s_there (b ∷ c ∷ line) some is there = rw (is, taken line (length (b ∷ c ∷ line) - 2) (omega arith)) (s_marked c line there)
