-- One digit changed makes a record's checksum wrong.
use Rattle.std.proofs.Common.{◌≡◌, ◌≢◌, ℕ, zero, suc, ◌+◌, ◌*◌, ◌%◌, ◌<◌, ◌≤◌, true, List, [], ◌∷◌, ◌++◌, length, take, set, sum, slice_index, Option, Ok, Err, refl, sym, ap, subst, ◌-◌, ◌∙◌, arith, inl, inr}
use Rattle.std.specs.List.{list_all, AllByRecursion}
use Rattle.std.proofs.lemmas.Bool.{and_parts, and_from, cases_lt, cases_eq}
use Rattle.std.proofs.lemmas.List.{length-set, length-append}
use Rattle.model.specs.Digits.{is_hex_byte, digit_value}
use Rattle.model.specs.declared.tape.TapeFault.{TapeFault}
use Rattle.model.specs.declared.tape.TapeFaultKind.TheVariants.{BadChecksum}
use Rattle.model.specs.Tape.{bytes_of_digits, claim_of, claim_in, AreAllDigits, Part, IsPiece, front_of, TapeDenotes, FirstFault, OneDigitIsRefused}
use Rattle.papertape.proofs.Digits.{value_small, length-bytes_of}
use Rattle.papertape.proofs.Texts.{sum-cons}
use Rattle.papertape.proofs.GrammarIsRead.{read_again}
use Rattle.papertape.proofs.Faults.{fault_again}

-- one byte is another
record Changed (bs cs : List ℕ) : Type 0 where
  front : List ℕ
  back : List ℕ
  old : ℕ
  new : ℕ
  was : bs ≡ front ++ old ∷ back
  is : cs ≡ front ++ new ∷ back
  other : new ≢ old
  old_small : old < 256
  new_small : new < 256

later : {bs cs : List ℕ} (x : ℕ) → Changed bs cs → Changed (x ∷ bs) (x ∷ cs)
later x c = record {
  front = x ∷ c.front;
  back = c.back;
  old = c.old;
  new = c.new;
  was = ap (λ (t : List ℕ). x ∷ t) c.was;
  is = ap (λ (t : List ℕ). x ∷ t) c.is;
  other = c.other;
  old_small = c.old_small;
  new_small = c.new_small;
}

-- one digit changed is one byte changed
one_byte : (digits : List ℕ) (j d n : ℕ) → length digits ≡ 2 * n → j < length digits → digit_value d ≢ digit_value (slice_index digits j)
    → Changed (bytes_of_digits digits) (bytes_of_digits (set digits j d))
one_byte [] j d n len lt other = absurd (omega arith)
one_byte (a ∷ []) j d n len lt other = absurd (omega arith)
one_byte (a ∷ b ∷ digits) zero d n len lt other = record {
  front = [];
  back = bytes_of_digits digits;
  old = digit_value a * 16 + digit_value b;
  new = digit_value d * 16 + digit_value b;
  was = refl;
  is = refl;
  other = (λ e. other (omega (arith, e)));
  old_small = omega (arith, value_small a, value_small b);
  new_small = omega (arith, value_small d, value_small b);
}
one_byte (a ∷ b ∷ digits) (suc zero) d n len lt other = record {
  front = [];
  back = bytes_of_digits digits;
  old = digit_value a * 16 + digit_value b;
  new = digit_value a * 16 + digit_value d;
  was = refl;
  is = refl;
  other = (λ e. other (omega (arith, e)));
  old_small = omega (arith, value_small a, value_small b);
  new_small = omega (arith, value_small a, value_small d);
}
one_byte (a ∷ b ∷ digits) (suc (suc j)) d n len lt other = later (digit_value a * 16 + digit_value b)
    (one_byte digits j d (n - 1) (omega arith) (omega arith) other)

-- ---- what the byte changes

-- a part that ends before it is the same
same_take : (m : ℕ) (front back : List ℕ) (y x : ℕ) → m ≤ length front → take m (front ++ y ∷ back) ≡ take m (front ++ x ∷ back)
same_take zero front back y x le = refl
same_take (suc m) [] back y x le = absurd (omega arith)
same_take (suc m) (f ∷ front) back y x le = ap (λ (t : List ℕ). f ∷ t) (same_take m front back y x (omega arith))

-- the sum of a part that has it changes as it does
sum_take : (m : ℕ) (front back : List ℕ) (y x : ℕ) → length front < m → sum (take m (front ++ y ∷ back)) + x ≡ sum (take m (front ++ x ∷ back)) + y
sum_take zero front back y x lt = absurd (omega arith)
sum_take (suc m) [] back y x lt =
    let a = sum-cons y (take m back) in
    let b = sum-cons x (take m back) in omega (arith, a, b)
sum_take (suc m) (f ∷ front) back y x lt =
    let a = sum-cons f (take m (front ++ y ∷ back)) in
    let b = sum-cons f (take m (front ++ x ∷ back)) in
    let h = sum_take m front back y x (omega arith) in omega (arith, a, b, h)

-- every other byte is the same
same_at : (i : ℕ) (front back : List ℕ) (y x : ℕ) → i ≢ length front → slice_index (front ++ y ∷ back) i ≡ slice_index (front ++ x ∷ back) i
same_at zero [] back y x other = absurd (other refl)
same_at (suc i) [] back y x other = refl
same_at zero (f ∷ front) back y x other = refl
same_at (suc i) (f ∷ front) back y x other = same_at i front back y x (λ e. other (omega (arith, e)))

this_at : (front back : List ℕ) (y i : ℕ) → i ≡ length front → slice_index (front ++ y ∷ back) i ≡ y
this_at [] back y i e = rw e refl
this_at (f ∷ front) back y i e = rw e (this_at front back y (length front) refl)

-- the checksum was right, and is wrong
wrong : (n : ℕ) (front back : List ℕ) (y x : ℕ) → x ≢ y → y < 256 → x < 256 → length front < 5 + n
    → sum (take (3 + n) (front ++ y ∷ back)) % 65536 ≡ slice_index (front ++ y ∷ back) (3 + n) * 256 + slice_index (front ++ y ∷ back) (4 + n)
    → sum (take (3 + n) (front ++ x ∷ back)) % 65536 ≢ slice_index (front ++ x ∷ back) (3 + n) * 256 + slice_index (front ++ x ∷ back) (4 + n)
wrong n front back y x other ys xs lt right now =
    elim (cases_lt (length front) (3 + n)) [
      | inl below ↦
          let s = sum_take (3 + n) front back y x below in
          let high = same_at (3 + n) front back y x (λ e. omega (arith, e, below)) in
          let low = same_at (4 + n) front back y x (λ e. omega (arith, e, below)) in
          other (omega (arith, s, high, low, right, now, ys, xs))
      | inr above ↦
          let s : sum (take (3 + n) (front ++ y ∷ back)) ≡ sum (take (3 + n) (front ++ x ∷ back)) = ap sum (same_take (3 + n) front back y x above) in
          elim (cases_eq (length front) (3 + n)) [
            | inl e ↦
                let high_y = this_at front back y (3 + n) (sym e) in
                let high_x = this_at front back x (3 + n) (sym e) in
                let low = same_at (4 + n) front back y x (λ f. omega (arith, e, f)) in
                other (omega (arith, s, high_y, high_x, low, right, now))
            | inr ne ↦
                let e : 4 + n ≡ length front = omega (arith, ne, above, lt) in
                let high = same_at (3 + n) front back y x (λ f. omega (arith, e, f)) in
                let low_y = this_at front back y (4 + n) e in
                let low_x = this_at front back x (4 + n) e in
                other (omega (arith, s, high, low_y, low_x, right, now))
          ]
    ]

wrong_claim : (n : ℕ) (bs cs : List ℕ) → length bs ≡ 4 + n → Changed bs cs → (claim_in (n ∷ bs)).sum ≡ (claim_in (n ∷ bs)).checksum
    → (claim_in (n ∷ cs)).sum ≢ (claim_in (n ∷ cs)).checksum
wrong_claim n bs cs len c right now =
    let room : length (n ∷ c.front) < 5 + n = omega (arith, len, ap length c.was, length-append c.front (c.old ∷ c.back)) in
    wrong n (n ∷ c.front) c.back c.old c.new c.other c.old_small c.new_small room
    (subst (λ (x : List ℕ). (claim_in (n ∷ x)).sum ≡ (claim_in (n ∷ x)).checksum) c.was right)
    (subst (λ (x : List ℕ). (claim_in (n ∷ x)).sum ≡ (claim_in (n ∷ x)).checksum) c.is now)

-- ---- the digits

all_set : (digits : List ℕ) (k d : ℕ) → list_all is_hex_byte digits ≡ true → is_hex_byte d ≡ true → list_all is_hex_byte (set digits k d) ≡ true
all_set [] k d h hex = h
all_set (x ∷ digits) zero d h hex = and_from (is_hex_byte d) (list_all is_hex_byte digits) hex (and_parts (is_hex_byte x) (list_all is_hex_byte digits) h).1
all_set (x ∷ digits) (suc k) d h hex =
    let p = and_parts (is_hex_byte x) (list_all is_hex_byte digits) h in
    and_from (is_hex_byte x) (list_all is_hex_byte (set digits k d)) p.0 (all_set digits k d p.1 hex)

-- what is refused after pieces
refused_there : (pieces : List Part) (digits more : List ℕ) → AllByRecursion IsPiece pieces → AreAllDigits digits
    → (claim_of digits).sum ≢ (claim_of digits).checksum
    → FirstFault (front_of pieces ++ (59 ∷ digits ++ more)) BadChecksum (length (front_of pieces))
refused_there pieces digits more each all wrong_sum =
    record {
      pieces = pieces;
      rest = 59 ∷ digits ++ more;
      place = 0;
      spelled = refl;
      each = each;
      breaks =
          (digits, more, refl, all, wrong_sum, refl);
      there = omega arith;
    }

-- a record of a text that denotes an image has the right checksum
right_there : (pieces : List Part) (digits more : List ℕ) (cells : List (Option ℕ)) → AllByRecursion IsPiece pieces → AreAllDigits digits
    → TapeDenotes (front_of pieces ++ (59 ∷ digits ++ more)) cells → (claim_of digits).sum ≡ (claim_of digits).checksum
right_there pieces digits more cells each all d =
    elim (cases_eq (claim_of digits).sum (claim_of digits).checksum) [
      | inl e ↦ e
      | inr ne ↦
          let text = front_of pieces ++ (59 ∷ digits ++ more) in
          absurd (not_both (sym (read_again text cells d) ∙ fault_again text BadChecksum (length (front_of pieces))
          (refused_there pieces digits more each all ne)))
    ] where
      not_both : {A : Type 0} {x : A} {f : TapeFault} → Ok x ≡ Err f → ⊥
      not_both e = cc

still_all : (digits : List ℕ) (k d : ℕ) → AreAllDigits digits → 2 ≤ k → is_hex_byte d ≡ true → AreAllDigits (set digits k d)
still_all [] k d all two hex = absurd (omega (arith, all.1))
still_all (a ∷ []) k d all two hex = absurd (omega (arith, all.1))
still_all (a ∷ b ∷ digits) zero d all two hex = absurd (omega arith)
still_all (a ∷ b ∷ digits) (suc zero) d all two hex = absurd (omega arith)
still_all (a ∷ b ∷ digits) (suc (suc j)) d all two hex =
    (all_set (a ∷ b ∷ digits) (suc (suc j)) d all.0 hex, omega (arith, all.1, length-set digits j d))

then_wrong : (digits : List ℕ) (k d : ℕ) → AreAllDigits digits → 2 ≤ k → k < length digits → digit_value d ≢ digit_value (slice_index digits k)
    → (claim_of digits).sum ≡ (claim_of digits).checksum
    → (claim_of (set digits k d)).sum ≢ (claim_of (set digits k d)).checksum
unfolding claim_of
then_wrong [] k d all two lt other right = absurd (omega (arith, lt))
then_wrong (a ∷ []) k d all two lt other right = absurd (omega (arith, all.1))
then_wrong (a ∷ b ∷ digits) zero d all two lt other right = absurd (omega arith)
then_wrong (a ∷ b ∷ digits) (suc zero) d all two lt other right = absurd (omega arith)
then_wrong (a ∷ b ∷ digits) (suc (suc j)) d all two lt other right =
    let n = digit_value a * 16 + digit_value b in
    let len : length digits ≡ 2 * (4 + n) = omega (arith, all.1) in
    wrong_claim n (bytes_of_digits digits) (bytes_of_digits (set digits j d)) (length-bytes_of digits (4 + n) len)
    (one_byte digits j d (4 + n) len (omega (arith, lt)) other) right

pub one_digit : OneDigitIsRefused
one_digit text cells pieces digits more k d den spelled each all two lt hex other =
    let right = right_there pieces digits more cells each all (subst (λ (t : List ℕ). TapeDenotes t cells) spelled den) in
    refused_there pieces (set digits k d) more each (still_all digits k d all two hex) (then_wrong digits k d all two lt other right)
