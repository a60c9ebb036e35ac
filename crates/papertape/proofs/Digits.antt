-- Hex digits and the bytes that they write.
use Rattle.std.proofs.Common.{◌≡◌, ℕ, zero, suc, ◌+◌, ◌*◌, ◌-◌, ◌<◌, ◌≤◌, leb, ◌/◌, ◌%◌, ◌&&◌, true, cond, List, [], ◌∷◌, ◌++◌, length, slice_index, Option, Some, None, unwrap_or, Ok, refl, arith, is_some}
use Rattle.std.specs.List.{list_all}
use Rattle.std.proofs.lemmas.Bool.{and_parts, ne_eqb, eq-eqb, cond_both, leb-true}
use Rattle.std.proofs.lemmas.List.{length-append}
use Rattle.hex.specs.Hex.{decode_pairs, decode_sized, digit_or_error, pair_value, hex_digit_value}
use Rattle.model.specs.Digits.{is_hex_byte, digit_value}
use Rattle.model.specs.Tape.{bytes_of_digits, needed, claim_of}

some_value : (c i : ℕ) (o : Option ℕ) → is_some o ≡ true → digit_or_error c i o ≡ Ok (unwrap_or o 0)
some_value c i (Some v) h = refl
some_value c i None h = absurd cc

pair_of : (high low i : ℕ) → is_hex_byte high ≡ true → is_hex_byte low ≡ true → pair_value high low i ≡ Ok (digit_value high * 16 + digit_value low)
pair_of high low i h l =
    rw (some_value high i (hex_digit_value high) h, some_value low (i + 1) (hex_digit_value low) l) refl

pub decode_pairs-digits : (i : ℕ) (digits : List ℕ) (n : ℕ) → length digits ≡ 2 * n → list_all is_hex_byte digits ≡ true
    → decode_pairs i digits ≡ Ok (bytes_of_digits digits)
unfolding decode_pairs
decode_pairs-digits i [] n len h = refl
decode_pairs-digits i (d ∷ []) n len h = absurd (omega arith)
decode_pairs-digits i (high ∷ low ∷ digits) n len h =
    let p = and_parts _ _ h in
    let q = and_parts _ _ p.1 in
    rw (pair_of high low i p.0 q.0, decode_pairs-digits (i + 2) digits (n - 1) (omega arith) q.1) refl

pub decode_sized-digits : (digits : List ℕ) (n : ℕ) → length digits ≡ 2 * n → list_all is_hex_byte digits ≡ true
    → decode_sized digits n ≡ Ok (bytes_of_digits digits)
decode_sized-digits digits n len h =
    let even : length digits % 2 ≡ 0 = omega arith in
    let half : length digits / 2 ≡ n = omega arith in
    rw (ne_eqb (length digits % 2) 1 (λ e. omega arith), eq-eqb (length digits / 2) n half, decode_pairs-digits 0 digits n len h) refl

pub length-bytes_of : (digits : List ℕ) (n : ℕ) → length digits ≡ 2 * n → length (bytes_of_digits digits) ≡ n
length-bytes_of [] n len = omega arith
length-bytes_of (d ∷ []) n len = absurd (omega arith)
length-bytes_of (high ∷ low ∷ digits) n len = let e = length-bytes_of digits (n - 1) (omega arith) in omega (arith, e)

pub value_small : (d : ℕ) → digit_value d ≤ 15
value_small d =
    cond_both (leb 65 d && leb d 70) (Some (d - 55)) (cond (leb 97 d && leb d 102) (Some (d - 87)) (cond (leb 48 d && leb d 57) (Some (d - 48)) None))
    (λ (o : Option ℕ). unwrap_or o 0 ≤ 15)
    (λ e. let p = leb-true d 70 (and_parts (leb 65 d) (leb d 70) e).1 in omega (arith, p))
    (λ n. cond_both (leb 97 d && leb d 102) (Some (d - 87)) (cond (leb 48 d && leb d 57) (Some (d - 48)) None) (λ (o : Option ℕ). unwrap_or o 0 ≤ 15)
    (λ e. let p = leb-true d 102 (and_parts (leb 97 d) (leb d 102) e).1 in omega (arith, p))
    (λ n2. cond_both (leb 48 d && leb d 57) (Some (d - 48)) None (λ (o : Option ℕ). unwrap_or o 0 ≤ 15)
    (λ e. let p = leb-true d 57 (and_parts (leb 48 d) (leb d 57) e).1 in omega (arith, p))
    (λ n3. omega arith)))

pub needed_small : (digits : List ℕ) → needed digits ≤ 520
needed_small [] = omega arith
needed_small (d ∷ []) = omega arith
needed_small (high ∷ low ∷ digits) = omega (arith, value_small high, value_small low)

-- a record has an even number of digits
pub half_of : (digits : List ℕ) → length digits ≡ needed digits → length digits ≡ 2 * (length digits / 2)
half_of [] e = omega arith
half_of (d ∷ []) e = omega arith
half_of (high ∷ low ∷ digits) e = omega arith

-- one digit more is not one too many
pub just_needed : (digits : List ℕ) (b : ℕ) → length digits < needed digits → needed (digits ++ b ∷ []) ≤ length (digits ++ b ∷ [])
    → length (digits ++ b ∷ []) ≡ needed (digits ++ b ∷ [])
just_needed [] b few le = absurd (omega arith)
just_needed (d ∷ []) b few le = absurd (omega arith)
just_needed (high ∷ low ∷ digits) b few le = omega (arith, length-append digits (b ∷ []))

byte_small : (bytes : List ℕ) (i : ℕ) → ((k : ℕ) → slice_index bytes k ≤ 255) → slice_index bytes i ≤ 255
byte_small bytes i h = h i

bytes_small : (digits : List ℕ) (k : ℕ) → slice_index (bytes_of_digits digits) k ≤ 255
bytes_small [] k = omega arith
bytes_small (d ∷ []) k = omega arith
bytes_small (high ∷ low ∷ digits) zero = omega (arith, value_small high, value_small low)
bytes_small (high ∷ low ∷ digits) (suc k) = bytes_small digits k

pub address_small : (digits : List ℕ) → (claim_of digits).address ≤ 65535
unfolding claim_of
address_small digits = omega (arith, bytes_small digits 1, bytes_small digits 2)
