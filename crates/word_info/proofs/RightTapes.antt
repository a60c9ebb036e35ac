-- A tape that denotes an image has the sum in its end record.
use Rattle.std.proofs.Common.{◌≡◌, ℕ, ◌+◌, ◌-◌, ◌==◌, ◌&&◌, ◌||◌, not, Bool, true, false, List, [], ◌∷◌, ◌++◌, drop, length, get_or, take, Option, refl, sym, ap, ◌∙◌, arith, inl, inr, append_assoc, length-append}
use Rattle.std.specs.List.{list_all, suffix_len}
use Rattle.std.proofs.lemmas.Bool.{cases_Bool, eq-eqb, eqb-true}
use Rattle.std.proofs.lemmas.List.{get_or-append_right, get_or_append_left, take-append-le, take_all}
use Rattle.std.proofs.lemmas.List.Prefix.{front_rest}
use Rattle.std.proofs.lemmas.List.Sums.{AllPass-from_list_all, suffix_len_is}
use Rattle.model.specs.Digits.{is_hex_byte}
use Rattle.model.specs.Tape.{AreAllDigits, TapeDenotes, claim_of, front_of, is_skipped}
use Rattle.image_reader.specs.EndRecords.{counts_twice, has_count_twice, is_count_twice, last_record, size_of}

skipped_is : (b : ℕ) → is_skipped b ≡ true → is_hex_byte b ≡ false
skipped_is b h = elim (cases_Bool (b == 0)) [
  | inl z ↦ ap is_hex_byte (eqb-true b 0 z)
  | inr nz ↦ elim (cases_Bool (b == 13)) [
    | inl r ↦ ap is_hex_byte (eqb-true b 13 r)
    | inr nr ↦ elim (cases_Bool (b == 10)) [
      | inl l ↦ ap is_hex_byte (eqb-true b 10 l)
      | inr nl ↦ ap is_hex_byte (eqb-true b 19 (sym (ap (λ (o : Bool). ((o || (b == 13)) || (b == 10)) || (b == 19)) nz
          ∙ ap (λ (o : Bool). (o || (b == 10)) || (b == 19)) nr ∙ ap (λ (o : Bool). o || (b == 19)) nl) ∙ h))
    ]
  ]
]

not_skipped : (b : ℕ) → is_hex_byte b ≡ true → is_skipped b ≡ false
not_skipped b h = elim (cases_Bool (is_skipped b)) [
  | inl s ↦ absurd (clash (sym (skipped_is b s) ∙ h))
  | inr n ↦ n
]
  where
    clash : false ≡ true → ⊥
    clash e = cc

module _ (front digits tail : List ℕ) (hex : list_all is_hex_byte digits ≡ true) (ten : length digits ≡ 10) (skipped : list_all is_skipped tail ≡ true) where
  abbrev body : List ℕ
  body = front ++ 59 ∷ digits

  long : length body ≡ length front + 11
  long = omega (arith, length-append front (59 ∷ digits), ten)

  last : get_or (body ++ tail) (length body - 1) 0 ≡ get_or digits 9 0
  last =
      let at : length body - 1 - length front ≡ 10 = omega (arith, long) in
      get_or_append_left body tail 0 (length body - 1) (omega (arith, long))
      ∙ get_or-append_right front (59 ∷ digits) (length front) (length body - 1) 0 refl (omega (arith, long))
      ∙ ap (λ i. get_or (59 ∷ digits) i 0) at

  tail_size : suffix_len is_skipped (body ++ tail) ≡ length tail
  tail_size =
      let whole = length-append body tail in
      let by = suffix_len_is is_skipped (body ++ tail) (length body) 0 (omega (arith, whole))
      (λ k from within. ap is_skipped (get_or-append_right body tail (length body) k 0 refl from)
      ∙ AllPass-from_list_all is_skipped tail skipped (k - length body) 0 (omega (arith, whole, from, within)))
      (λ some. ap is_skipped last ∙ not_skipped (get_or digits 9 0) (AllPass-from_list_all is_hex_byte digits hex 9 0 (omega (arith, ten)))) in
      omega (arith, by, whole)

  size : size_of (body ++ tail) ≡ length body
  size = omega (arith, tail_size, length-append body tail)

  kept : take (size_of (body ++ tail)) (body ++ tail) ≡ body
  kept = ap (λ n. take n (body ++ tail)) size ∙ take-append-le (length body) body tail (omega arith) ∙ take_all (length body) body (omega arith)

  begins : size_of (body ++ tail) - 11 ≡ length front
  begins = omega (arith, size, long)

  ends_with : last_record (body ++ tail) ≡ 59 ∷ digits
  unfolding last_record
  ends_with = ap (λ n. drop n (take (size_of (body ++ tail)) (body ++ tail))) begins ∙ ap (drop (length front)) kept ∙ front_rest body front (59 ∷ digits) refl

right_sum : (digits : List ℕ) → (claim_of digits).sum ≡ (claim_of digits).checksum → counts_twice (claim_of digits) ≡ false
unfolding counts_twice
right_sum digits e = ap (λ (b : Bool). ((claim_of digits).length == 0) && ((claim_of digits).checksum == (claim_of digits).address) && not b)
    (eq-eqb (claim_of digits).sum (claim_of digits).checksum e)
    ∙ and_false (((claim_of digits).length == 0) && ((claim_of digits).checksum == (claim_of digits).address))
  where
    and_false : (b : Bool) → (b && false) ≡ false
    and_false true = refl
    and_false false = refl

ten_digits : (digits : List ℕ) → AreAllDigits digits → (claim_of digits).length ≡ 0 → length digits ≡ 10
unfolding claim_of
ten_digits [] h none = omega (arith, h.1)
ten_digits (a ∷ []) h none = omega (arith, h.1)
ten_digits (a ∷ b ∷ digits) h none = omega (arith, h.1, none)

-- the end record of a right tape has the sum
pub right_has_none : (text : List ℕ) (cells : List (Option ℕ)) → TapeDenotes text cells → has_count_twice text ≡ false
unfolding has_count_twice
right_has_none text cells tape =
    let ten = ten_digits tape.digits tape.end.all tape.end.none in
    let spelled : text ≡ (front_of tape.pieces ++ 59 ∷ tape.digits) ++ tape.tail =
    tape.spelled ∙ sym (append_assoc (front_of tape.pieces) (59 ∷ tape.digits) tape.tail) in
    ap (λ t. is_count_twice (last_record t)) spelled ∙ ap is_count_twice (ends_with (front_of tape.pieces) tape.digits tape.tail tape.end.all.0 ten tape.rest)
    ∙ no_count ((59 == 59) && (length tape.digits == 10) && list_all is_hex_byte tape.digits) (counts_twice (claim_of tape.digits))
    (right_sum tape.digits tape.end.checked)
  where
    no_count : (a b : Bool) → b ≡ false → (a && b) ≡ false
    no_count true b e = e
    no_count false b e = refl
