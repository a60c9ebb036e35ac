-- Hex digits of numbers.
use Rattle.std.proofs.Common.{◌≡◌, ℕ, ◌+◌, ◌*◌, ◌/◌, ◌%◌, ◌<◌, ◌^◌, pos, ◌∷◌, map, true, refl, sym, ap, ◌∙◌, arith, get_or}
use Rattle.std.specs.Prelude.{Some}
use Rattle.std.specs.List.{range_with_len}
use Rattle.std.proofs.lemmas.List.FromFn.{get_or-map-range_with_len}
use Rattle.std.proofs.lemmas.Bool.{lt-ltb}
use Rattle.model.specs.Token.{is_source_byte, is_word_byte, is_hex_byte}
use Rattle.model.specs.Expression.{digit_value, number_of_text, in_range}
use Rattle.model.specs.Text.{hex_digit, hex_byte, hex_address}

-- what the tokens of a line ask of a digit
pub record Digit (d h : ℕ) : Type 0 where
  pub hex : is_hex_byte h ≡ true
  pub word : is_word_byte h ≡ true
  pub source : is_source_byte h ≡ true
  pub value : digit_value h ≡ d

below_16 : {A : Type 0} (f g : ℕ → A) (x : A)
    → map f (range_with_len 0 16) ≡ map g (range_with_len 0 16) → (d : ℕ) → d < 16 → f d ≡ g d
below_16 f g x same d below =
    sym (get_or-map-range_with_len f 0 16 d d x below (omega arith))
    ∙ ap (λ rows. get_or rows d x) same
    ∙ get_or-map-range_with_len g 0 16 d d x below (omega arith)

pub digit : (d : ℕ) → d < 16 → Digit d (hex_digit d)
digit d below = record {
  hex = below_16 (λ n. is_hex_byte (hex_digit n)) (λ n. true) true refl d below;
  word = below_16 (λ n. is_word_byte (hex_digit n)) (λ n. true) true refl d below;
  source = below_16 (λ n. is_source_byte (hex_digit n)) (λ n. true) true refl d below;
  value = below_16 (λ n. digit_value (hex_digit n)) (λ n. n) 0 refl d below;
}

-- the number that two digits write
pub two_digits : (b : ℕ) → b < 256 → in_range (number_of_text (36 ∷ hex_byte b)) ≡ Some (pos b)
two_digits b below =
    let h : b / 16 < 16 = omega (arith, below) in
    let l : b % 16 < 16 = omega arith in
    let high = (digit (b / 16) h).value in
    let low = (digit (b % 16) l).value in
    let same : (0 * 16 + digit_value (hex_digit (b / 16))) * 16 + digit_value (hex_digit (b % 16)) ≡ b = omega (arith, high, low) in
    ap in_range same ∙ in_word b (omega (arith, below))
  where
    in_word : (n : ℕ) → n < 2 ^ 31 → in_range n ≡ Some (pos n)
    in_word n small = rw (lt-ltb n (2 ^ 31) small) refl

pub four_digits : (w : ℕ) → w < 65536
    → in_range (number_of_text (36 ∷ hex_address w)) ≡ Some (pos w)
four_digits w below =
    let h = (digit (w / 256 / 16) (omega (arith, below))).value in
    let i = (digit (w / 256 % 16) (omega arith)).value in
    let j = (digit (w % 256 / 16) (omega arith)).value in
    let k = (digit (w % 256 % 16) (omega arith)).value in
    let same : (((0 * 16 + digit_value (hex_digit (w / 256 / 16))) * 16 + digit_value (hex_digit (w / 256 % 16))) * 16 + digit_value
    (hex_digit (w % 256 / 16))) * 16
    + digit_value (hex_digit (w % 256 % 16)) ≡ w = omega (arith, h, i, j, k) in
    ap in_range same ∙ in_word w (omega (arith, below))
  where
    in_word : (n : ℕ) → n < 2 ^ 31 → in_range n ≡ Some (pos n)
    in_word n small = rw (lt-ltb n (2 ^ 31) small) refl
