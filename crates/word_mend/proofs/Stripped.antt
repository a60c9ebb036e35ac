-- What is left of a tape without line ends, $00 and $13.
use Rattle.std.proofs.Common.{◌≡◌, ℕ, zero, suc, ◌+◌, ◌-◌, ◌*◌, ◌/◌, ◌%◌, ◌<◌, ◌==◌, ◌&&◌, leb, cond, Bool, true, false, List, [], ◌∷◌, ◌++◌, length, take, drop, slice_index, Option, ◌⊎◌, inl, inr, refl, sym, ap, subst, ◌∙◌, arith, append_assoc, eq-eqb}
use Rattle.std.specs.List.{filter, list_all, AllByRecursion}
use Rattle.std.proofs.lemmas.Bool.{and_parts, and_from, cases_Bool, eqb-true, leb-true}
use Rattle.std.proofs.lemmas.List.{append-nil, length-append, take_at}
use Rattle.std.proofs.lemmas.List.Elements.{filter-append}
use Rattle.hex.specs.Hex.{encode_with, encode_upper, upper_digits}
use Rattle.hex.proofs.HexLemmas.{IsDigits-upper_digits, length-encode_with}
use Rattle.model.specs.Digits.{is_hex_byte, digit_value}
use Rattle.model.specs.Image.{empty_image, with_bytes}
use Rattle.model.specs.Tape.{claim_of, Part, gap, record_of, IsPiece, IsEnd, count_of, front_of, with_records, is_skipped, TapeDenotes}
use Rattle.model.specs.TapeText.{word, with_sum, end_line}
use Rattle.word_mend.specs.Captures.{IsCapture, captured_tape, from_record, up_to_end}
use Rattle.word_mend.specs.Reported.{is_end, last_record}
use Rattle.word_mend.proofs.CaptureEnds.{cut, of_choice}
use Rattle.word_mend.specs.Mending.{is_kept, kept, is_end_record, before_end, is_at_end, with_line_ends, records_in, mended_of, mended_text, HasRecords}

-- ---- which bytes are kept

no_digit : (b n : ℕ) → is_hex_byte b ≡ true → is_hex_byte n ≡ false → (b == n) ≡ false
no_digit b n h none = elim (cases_Bool (b == n)) [
  | inl t ↦ let e : is_hex_byte b ≡ is_hex_byte n = ap is_hex_byte (eqb-true b n t) in absurd cc
  | inr f ↦ f
]

hex_kept : (b : ℕ) → is_hex_byte b ≡ true → is_kept b ≡ true
hex_kept b h = rw (no_digit b 0 h refl, no_digit b 13 h refl, no_digit b 10 h refl, no_digit b 19 h refl) refl

kept_hex : (ds : List ℕ) → list_all is_hex_byte ds ≡ true → filter is_kept ds ≡ ds
kept_hex [] h = refl
kept_hex (d ∷ ds) h =
    let p = and_parts (is_hex_byte d) (list_all is_hex_byte ds) h in
    rw (hex_kept d p.0) (ap (λ (t : List ℕ). d ∷ t) (kept_hex ds p.1))

skipped_gone : (bytes : List ℕ) → list_all is_skipped bytes ≡ true → filter is_kept bytes ≡ []
skipped_gone [] h = refl
skipped_gone (b ∷ bytes) h =
    let p = and_parts (is_skipped b) (list_all is_skipped bytes) h in
    let gone : is_kept b ≡ false = rw p.0 refl in
    rw gone (skipped_gone bytes p.1)

all_filter : (p : ℕ → Bool) (xs : List ℕ) → list_all p (filter p xs) ≡ true
all_filter p [] = refl
all_filter p (x ∷ xs) = elim (cases_Bool (p x)) [
  | inl t ↦ rw t (and_from (p x) (list_all p (filter p xs)) t (all_filter p xs))
  | inr f ↦ rw f (all_filter p xs)
]

all_take : (p : ℕ → Bool) (n : ℕ) (xs : List ℕ) → list_all p xs ≡ true → list_all p (take n xs) ≡ true
all_take p zero xs h = refl
all_take p (suc n) [] h = refl
all_take p (suc n) (x ∷ xs) h =
    let q = and_parts (p x) (list_all p xs) h in
    and_from (p x) (list_all p (take n xs)) q.0 (all_take p n xs q.1)

filter_all : (p : ℕ → Bool) (xs : List ℕ) → list_all p xs ≡ true → filter p xs ≡ xs
filter_all p [] h = refl
filter_all p (x ∷ xs) h =
    let q = and_parts (p x) (list_all p xs) h in
    rw q.0 (ap (λ (t : List ℕ). x ∷ t) (filter_all p xs q.1))

-- ---- pieces

abbrev data_pieces : List Part → List Part
data_pieces [] = []
data_pieces (gap b ∷ ps) = data_pieces ps
data_pieces (record_of ds ∷ ps) = record_of ds ∷ data_pieces ps

front_kept : (ps : List Part) → AllByRecursion IsPiece ps → filter is_kept (front_of ps) ≡ front_of (data_pieces ps)
front_kept [] h = refl
front_kept (gap b ∷ ps) h =
    let gone : is_kept b ≡ false = rw h.0 refl in
    rw gone (front_kept ps h.1)
front_kept (record_of ds ∷ ps) h =
    ap (λ (t : List ℕ). 59 ∷ t)
    (filter-append is_kept ds (front_of ps) ∙ ap (λ (t : List ℕ). t ++ filter is_kept (front_of ps)) (kept_hex ds h.0.all.0)
    ∙ ap (λ (t : List ℕ). ds ++ t) (front_kept ps h.1))

each_data : (ps : List Part) → AllByRecursion IsPiece ps → AllByRecursion IsPiece (data_pieces ps)
each_data [] h = h
each_data (gap b ∷ ps) h = each_data ps h.1
each_data (record_of ds ∷ ps) h = (h.0, each_data ps h.1)

same_union : (cells : List (Option ℕ)) (ps : List Part) → with_records cells (data_pieces ps) ≡ with_records cells ps
same_union cells [] = refl
same_union cells (gap b ∷ ps) = same_union cells ps
same_union cells (record_of ds ∷ ps) = same_union (with_bytes cells (claim_of ds).address (claim_of ds).bytes) ps

same_count : (ps : List Part) → count_of (data_pieces ps) ≡ count_of ps
same_count [] = refl
same_count (gap b ∷ ps) = same_count ps
same_count (record_of ds ∷ ps) = ap (λ (n : ℕ). 1 + n) (same_count ps)

-- ---- the end record

-- only `0` has the value 0
zero_digit : (d : ℕ) → is_hex_byte d ≡ true → digit_value d ≡ 0 → d ≡ 48
zero_digit d h z = elim (cases_Bool (leb 65 d && leb d 70)) [
  | inl t ↦ let low = leb-true 65 d (and_parts (leb 65 d) (leb d 70) t).0 in let v : d - 55 ≡ 0 = rw t at z in omega (arith, low, v)
  | inr f ↦ elim (cases_Bool (leb 97 d && leb d 102)) [
    | inl t ↦ let low = leb-true 97 d (and_parts (leb 97 d) (leb d 102) t).0 in let v : d - 87 ≡ 0 = rw (f, t) at z in omega (arith, low, v)
    | inr g ↦ elim (cases_Bool (leb 48 d && leb d 57)) [
      | inl t ↦ let low = leb-true 48 d (and_parts (leb 48 d) (leb d 57) t).0 in let v : d - 48 ≡ 0 = rw (f, g, t) at z in omega (arith, low, v)
      | inr k ↦ let none : false ≡ true = rw (f, g, k) at h in absurd cc
    ]
  ]
]

-- an end record's digits, by their number and their first two
record EndDigits (digits : List ℕ) : Type 0 where
  ten : length digits ≡ 10
  found : is_end_record (59 ∷ digits) ≡ true

end_digits : (count : ℕ) (digits : List ℕ) → IsEnd count digits → EndDigits digits
unfolding is_end_record claim_of
end_digits count [] e = absurd (omega (arith, e.all.1))
end_digits count (d ∷ []) e = absurd (omega (arith, e.all.1))
end_digits count (high ∷ low ∷ digits) e =
    let none : digit_value high * 16 + digit_value low ≡ 0 = e.none in
    let p = and_parts (is_hex_byte high) (list_all is_hex_byte (low ∷ digits)) e.all.0 in
    let q = and_parts (is_hex_byte low) (list_all is_hex_byte digits) p.1 in
    let first : high ≡ 48 = zero_digit high p.0 (omega (arith, none)) in
    let second : low ≡ 48 = zero_digit low q.0 (omega (arith, none)) in
    let ten : length (high ∷ low ∷ digits) ≡ 10 = omega (arith, none, e.all.1) in
    let eleven : length (59 ∷ high ∷ low ∷ digits) ≡ 11 = omega (arith, ten) in
    record {
      ten = ten;
      found = rw (eq-eqb (length (59 ∷ high ∷ low ∷ digits)) 11 eleven, eq-eqb high 48 first, eq-eqb low 48 second) e.all.0;
    }

-- what is left of a tape: its records, and the end record
record Left (out : List ℕ) (cells : List (Option ℕ)) : Type 0 where
  pieces : List Part
  digits : List ℕ
  spelled : filter is_kept out ≡ front_of pieces ++ (59 ∷ digits)
  each : AllByRecursion IsPiece pieces
  end : EndDigits digits
  counted : IsEnd (count_of pieces) digits
  union : cells ≡ with_records empty_image pieces

left : (out : List ℕ) (cells : List (Option ℕ)) → TapeDenotes out cells → Left out cells
left out cells d =
    let digits_kept : filter is_kept (59 ∷ d.digits ++ d.tail) ≡ 59 ∷ d.digits =
    ap (λ (t : List ℕ). 59 ∷ t)
    (filter-append is_kept d.digits d.tail ∙ ap (λ (t : List ℕ). filter is_kept d.digits ++ t) (skipped_gone d.tail d.rest)
    ∙ append-nil (filter is_kept d.digits) ∙ kept_hex d.digits d.end.all.0) in
    record {
      pieces = data_pieces d.pieces;
      digits = d.digits;
      spelled = ap (λ (t : List ℕ). filter is_kept t) d.spelled ∙ filter-append is_kept (front_of d.pieces) (59 ∷ d.digits ++ d.tail)
          ∙ ap (λ (t : List ℕ). t ++ filter is_kept (59 ∷ d.digits ++ d.tail)) (front_kept d.pieces d.each)
          ∙ ap (λ (t : List ℕ). front_of (data_pieces d.pieces) ++ t) digits_kept;
      each = each_data d.pieces d.each;
      end = end_digits _ d.digits d.end;
      counted = subst (λ (n : ℕ). IsEnd n d.digits) (sym (same_count d.pieces)) d.end;
      union = d.union ∙ sym (same_union empty_image d.pieces);
    }

-- a right tape has its own records
pub own_records : (text : List ℕ) (cells : List (Option ℕ)) → TapeDenotes text cells → HasRecords text cells
unfolding kept
own_records text cells d =
    let l = left text cells d in
    record { pieces = l.pieces; ending = 59 ∷ l.digits; spelled = l.spelled; each = l.each; end = inr l.end.found; union = l.union }

-- ---- the mended text

-- line ends are not kept
kept_lines : (bytes : List ℕ) → filter is_kept (with_line_ends bytes) ≡ filter is_kept bytes
unfolding with_line_ends
kept_lines [] = refl
kept_lines (b ∷ bytes) =
    let more : cond (is_kept b) (b ∷ filter is_kept (with_line_ends bytes)) (filter is_kept (with_line_ends bytes))
    ≡ cond (is_kept b) (b ∷ filter is_kept bytes) (filter is_kept bytes) =
    ap (λ (t : List ℕ). cond (is_kept b) (b ∷ t) t) (kept_lines bytes) in
    elim (cases_Bool (is_at_end bytes)) [ inl t ↦ rw t more | inr f ↦ rw f more ]

AreBytes : List ℕ → Type 0
AreBytes [] = Unit {0}
AreBytes (b ∷ bs) = (b < 256) × AreBytes bs

hex_of-encode : (bs : List ℕ) → AreBytes bs → list_all is_hex_byte (encode_upper bs) ≡ true
unfolding encode_with AreBytes
hex_of-encode [] h = refl
hex_of-encode (b ∷ bs) h =
    let hi : is_hex_byte (slice_index upper_digits (b / 16)) ≡ true = rw (IsDigits-upper_digits (b / 16) (omega (arith, h.0))) refl in
    let lo : is_hex_byte (slice_index upper_digits (b % 16)) ≡ true = rw (IsDigits-upper_digits (b % 16) (omega arith)) refl in
    and_from _ _ hi (and_from _ _ lo (hex_of-encode bs h.1))

-- the bytes of an end record
abbrev end_bytes : ℕ → List ℕ
end_bytes n = with_sum (0 ∷ word n)

end_are_bytes : (n : ℕ) → n < 65536 → AreBytes (end_bytes n)
unfolding AreBytes
end_are_bytes n h = (omega arith, (omega (arith, h), (omega arith, (omega arith, (omega arith, tt)))))

kept_end : (n : ℕ) → n < 65536 → filter is_kept (end_line n) ≡ 59 ∷ encode_upper (end_bytes n)
kept_end n h =
    let digits = encode_upper (end_bytes n) in
    ap (λ (t : List ℕ). 59 ∷ t)
    (filter-append is_kept digits (13 ∷ 10 ∷ []) ∙ append-nil (filter is_kept digits) ∙ kept_hex digits (hex_of-encode (end_bytes n) (end_are_bytes n h)))

-- what stands before ends of the same length
same_fronts : (xs ys zs ws : List ℕ) → length ys ≡ length ws → xs ++ ys ≡ zs ++ ws → xs ≡ zs
same_fronts xs ys zs ws size e =
    let lengths = ap (λ (t : List ℕ). length t) e in
    let same : length xs ≡ length zs = omega (arith, size, lengths, length-append xs ys, length-append zs ws) in
    sym (take_at xs ys (length xs) refl) ∙ ap (λ (t : List ℕ). take (length xs) t) e ∙ take_at zs ws (length xs) (sym same)

-- the end that is taken away
record Ends (k : List ℕ) : Type 0 where
  ending : List ℕ
  spelled : k ≡ before_end k ++ ending
  end : (ending ≡ []) ⊎ (is_end_record ending ≡ true)

take_and_drop : (n : ℕ) (xs : List ℕ) → take n xs ++ drop n xs ≡ xs
take_and_drop zero xs = refl
take_and_drop (suc n) [] = refl
take_and_drop (suc n) (x ∷ xs) = ap (λ (t : List ℕ). x ∷ t) (take_and_drop n xs)

ends : (k : List ℕ) → Ends k
unfolding before_end
ends k = elim (cases_Bool (is_end_record (drop (length k - 11) k))) [
  | inl t ↦ record { ending = drop (length k - 11) k; spelled = rw t (sym (take_and_drop (length k - 11) k)); end = inr t }
  | inr f ↦ record { ending = []; spelled = rw f (sym (append-nil k)); end = inl refl }
]

before_kept : (k : List ℕ) → list_all is_kept k ≡ true → list_all is_kept (before_end k) ≡ true
unfolding before_end
before_kept k h = elim (cases_Bool (is_end_record (drop (length k - 11) k))) [
  | inl t ↦ rw t (all_take is_kept (length k - 11) k h)
  | inr f ↦ rw f h
]

of_kept : (text k out : List ℕ) (cells : List (Option ℕ)) → kept text ≡ k → list_all is_kept k ≡ true → out ≡ mended_of k → TapeDenotes out cells
    → HasRecords text cells
unfolding mended_of
of_kept text [] out cells is all e d =
    let sizes = ap (λ (t : List ℕ). length t) (sym e ∙ d.spelled) in
    absurd (omega (arith, sizes, length-append (front_of d.pieces) (59 ∷ d.digits ++ d.tail)))
of_kept text (b ∷ bytes) out cells is all e d =
    let k : List ℕ = b ∷ bytes in
    let r = before_end k in
    let n = records_in r % 65536 in
    let l = left out cells d in
    let rest = ends k in
    let ten : length (encode_upper (end_bytes n)) ≡ 10 = length-encode_with upper_digits (end_bytes n) in
    let stripped : r ++ (59 ∷ encode_upper (end_bytes n)) ≡ front_of l.pieces ++ (59 ∷ l.digits) =
    ap (λ (t : List ℕ). t ++ (59 ∷ encode_upper (end_bytes n))) (sym (kept_lines r ∙ filter_all is_kept r (before_kept k all)))
    ∙ ap (λ (t : List ℕ). filter is_kept (with_line_ends r) ++ t) (sym (kept_end n (omega arith)))
    ∙ sym (filter-append is_kept (with_line_ends r) (end_line n)) ∙ ap (λ (t : List ℕ). filter is_kept t) (sym e) ∙ l.spelled in
    let same : r ≡ front_of l.pieces = same_fronts r (59 ∷ encode_upper (end_bytes n)) (front_of l.pieces) (59 ∷ l.digits)
    (omega (arith, ten, l.end.ten)) stripped in
    record {
      pieces = l.pieces;
      ending = rest.ending;
      spelled = is ∙ rest.spelled ∙ ap (λ (t : List ℕ). t ++ rest.ending) same;
      each = l.each;
      end = rest.end;
      union = l.union;
    }

-- a mended text has the records of the text that it was made of
pub mended_records : (text out : List ℕ) (cells : List (Option ℕ)) → out ≡ mended_text text → TapeDenotes out cells → HasRecords text cells
unfolding mended_text kept
mended_records text out cells e d = of_kept text (kept text) out cells refl (all_filter is_kept text) e d

-- ---- the tape of a capture

kept_up_to_end : (k : List ℕ) → list_all is_kept k ≡ true → list_all is_kept (up_to_end k) ≡ true
unfolding up_to_end
kept_up_to_end k all =
    let n = length k - (length (last_record k) - 11) in
    of_choice (λ (xs : List ℕ). list_all is_kept xs ≡ true) (is_end (last_record k)) (take n k) k (all_take is_kept n k all) all

of_capture : (text k : List ℕ) (cells : List (Option ℕ)) → kept (from_record text) ≡ k → list_all is_kept k ≡ true
    → TapeDenotes (with_line_ends (up_to_end k)) cells → IsCapture text cells
of_capture text k cells is all d =
    let c = up_to_end k in
    let l = left (with_line_ends c) cells d in
    let rest = cut k in
    let same : c ≡ front_of l.pieces ++ (59 ∷ l.digits) = sym (kept_lines c ∙ filter_all is_kept c (kept_up_to_end k all)) ∙ l.spelled in
    record {
      pieces = l.pieces;
      digits = l.digits;
      behind = rest.0;
      spelled = is ∙ (rest.1 ∙ (ap (λ (t : List ℕ). t ++ rest.0) same ∙ append_assoc (front_of l.pieces) (59 ∷ l.digits) rest.0));
      each = l.each;
      end = l.counted;
      other = rest.2;
      union = l.union;
    }

-- a tape that is made of a text shows that the text is a capture
pub is_capture : (text : List ℕ) (cells : List (Option ℕ)) → TapeDenotes (captured_tape text) cells → IsCapture text cells
unfolding captured_tape kept
is_capture text cells d = of_capture text (kept (from_record text)) cells refl (all_filter is_kept (from_record text)) d
