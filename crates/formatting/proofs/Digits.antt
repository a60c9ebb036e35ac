-- The two digits of a byte, as a table of digits gives them and as the definitions do.
use Rattle.std.proofs.Common.{◌≡◌, ℕ, zero, suc, ◌<◌, ◌/◌, ◌%◌, ◌==◌, ◌&&◌, Bool, true, [], ◌∷◌, map, slice_index, Result, Ok, Err, refl, ap, ◌∙◌, arith, inl, inr}
use Rattle.std.specs.Prelude.{OnOk, IsOk}
use Rattle.std.specs.Char.{to_ascii_uppercase}
use Rattle.std.proofs.lemmas.Bool.{and_parts, cases_lt, eqb-true}
use Rattle.hex.specs.Hex.{encode_with, encode_lower, encode_upper, lower_digits, upper_digits}
use Rattle.model.specs.Text.{hex_digit, hex_byte}

-- One place of the table, which computes.
abbrev is_digit : ℕ → Bool
is_digit d = to_ascii_uppercase (slice_index lower_digits d) == hex_digit d && slice_index upper_digits d == hex_digit d

abbrev are_digits : ℕ → Bool
are_digits zero = true
are_digits (suc n) = is_digit n && are_digits n

digit_at : (n d : ℕ) → are_digits n ≡ true → d < n → is_digit d ≡ true
digit_at zero d h lt = absurd (omega arith)
digit_at (suc n) d h lt =
    let parts = and_parts (is_digit n) (are_digits n) h in
    elim (cases_lt d n) [
      | inl below ↦ digit_at n d parts.1 below
      | inr top ↦
          let e : d ≡ n = omega arith in
          rw e parts.0
    ]

both : (d : ℕ) → d < 16 → (to_ascii_uppercase (slice_index lower_digits d) ≡ hex_digit d) × (slice_index upper_digits d ≡ hex_digit d)
both d lt =
    let parts = and_parts (to_ascii_uppercase (slice_index lower_digits d) == hex_digit d) (slice_index upper_digits d == hex_digit d)
    (digit_at 16 d refl lt) in
    (eqb-true _ _ parts.0, eqb-true _ _ parts.1)

-- Small digits of a byte made capital are its digits.
pub made_capital : (b : ℕ) → b < 256 → map to_ascii_uppercase (encode_lower (b ∷ [])) ≡ hex_byte b
unfolding encode_with
made_capital b lt =
    ap (λ (x : ℕ). x ∷ to_ascii_uppercase (slice_index lower_digits (b % 16)) ∷ []) (both (b / 16) (omega (arith, lt))).0
    ∙ ap (λ (x : ℕ). hex_digit (b / 16) ∷ x ∷ []) (both (b % 16) (omega arith)).0

-- So are its capital digits.
pub are_capital : (b : ℕ) → b < 256 → encode_upper (b ∷ []) ≡ hex_byte b
unfolding encode_with
are_capital b lt =
    ap (λ (x : ℕ). x ∷ slice_index upper_digits (b % 16) ∷ []) (both (b / 16) (omega (arith, lt))).1
    ∙ ap (λ (x : ℕ). hex_digit (b / 16) ∷ x ∷ []) (both (b % 16) (omega arith)).1

-- What holds at `Ok` holds where there is one.
pub on_ok : {E : Type 0} (r : Result Unit E) (P : Type 0) → IsOk r → OnOk r P → P
on_ok (Ok u) P h k = k
on_ok (Err e) P h k = absurd cc
