-- Runs of bytes, and the tokens that they make.
use Rattle.std.proofs.Common.{◌≡◌, ℕ, zero, suc, ◌+◌, ◌-◌, ◌<◌, ◌≤◌, Bool, true, false, List, [], ◌∷◌, ◌++◌, length, length-drop, take, drop, refl, ap, sym, ◌∙◌, arith, inl, inr}
use Rattle.std.specs.Prelude.{◌==◌, nat_le, if◌then◌else◌, None, Some}
use Rattle.std.specs.List.{prefix_len}
use Rattle.std.proofs.lemmas.Bool.{cases_Bool, false≢true, lt-leb, le-leb, ne_eqb, eqb-true}
use Rattle.std.proofs.lemmas.List.Folds.{length-prefix_len}
use Rattle.std.proofs.lemmas.List.{take_all, drop-drop}
use Rattle.model.specs.declared.expression.TokenKind.TheVariants.{Word, Directive, Str}
use Rattle.model.specs.Digits.{is_hex_byte}
use Rattle.model.specs.Token.{run_of, begins, is_word_byte, is_letter, is_digit, is_binary_byte, is_string_byte, word_token, number_token, directive_token, string_token, token_at}
use Rattle.lexer.specs.Lexing.{number_in}

-- a run is the bytes at the front that pass
pub run_is_prefix : (passes : ℕ → Bool) (bytes : List ℕ) → run_of passes bytes ≡ take (prefix_len passes bytes) bytes
run_is_prefix passes [] = refl
run_is_prefix passes (b ∷ bytes) =
    elim (cases_Bool (passes b)) [
      | inl t ↦
          let e : 1 + prefix_len passes bytes ≡ suc (prefix_len passes bytes) = omega arith in
          rw (t, e) (ap (λ (x : List ℕ). b ∷ x) (run_is_prefix passes bytes))
      | inr f ↦ rw f refl
    ]

-- a slice from a place on
pub from : (n : ℕ) (bytes : List ℕ) → take (length bytes - n) (drop n bytes) ≡ drop n bytes
from n bytes = take_all (length bytes - n) (drop n bytes) (omega (arith, length-drop n bytes))

-- so many bytes are a run
run_is : (passes : ℕ → Bool) (bytes : List ℕ) (n : ℕ) → n ≡ prefix_len passes bytes → run_of passes bytes ≡ take n bytes
run_is passes bytes n e = run_is_prefix passes bytes ∙ ap (λ m. take m bytes) (sym e)

run_length : (passes : ℕ → Bool) (bytes : List ℕ) (n : ℕ) → n ≡ prefix_len passes bytes → length (take n bytes) ≡ n
run_length passes bytes n e = ap (λ m. length (take m bytes)) e ∙ length-prefix_len passes bytes ∙ sym e

-- words
word_is : (bytes : List ℕ) (n : ℕ) → n ≡ prefix_len is_word_byte bytes → word_token bytes ≡ (if nat_le n 31 then Some (Word, take n bytes) else None)
word_is bytes n e = rw (run_is is_word_byte bytes n e, run_length is_word_byte bytes n e) refl

pub word_short : (bytes : List ℕ) (n : ℕ) → n ≡ prefix_len is_word_byte bytes → n ≤ 31 → Some (Word, take n bytes) ≡ word_token bytes
word_short bytes n e le = sym (word_is bytes n e ∙ (rw (le-leb n 31 le) refl))

pub word_long : (bytes : List ℕ) (n : ℕ) → n ≡ prefix_len is_word_byte bytes → 31 < n → None ≡ word_token bytes
word_long bytes n e lt = sym (word_is bytes n e ∙ (rw (lt-leb n 31 lt) refl))

-- numbers
decimal_is : (passes : ℕ → Bool) (bytes : List ℕ) (n : ℕ) → n ≡ prefix_len passes bytes → number_token [] passes bytes ≡ number_in 0 n bytes
decimal_is passes bytes n e =
    let z : 0 + n ≡ n = omega arith in
    rw (run_is passes bytes n e, run_length passes bytes n e, z) refl

marked_is : (passes : ℕ → Bool) (mark : ℕ) (bytes : List ℕ) (n : ℕ) → n ≡ prefix_len passes bytes
    → number_token (mark ∷ []) passes bytes ≡ number_in 1 n (mark ∷ bytes)
marked_is passes mark bytes n e =
    let s : 1 + n ≡ suc n = omega arith in
    rw (run_is passes bytes n e, run_length passes bytes n e, s) refl

pub token_decimal : (bytes rest : List ℕ) (b n : ℕ) → bytes ≡ b ∷ rest → is_letter b ≡ false → is_digit b ≡ true → n ≡ prefix_len is_digit bytes
    → number_in 0 n bytes ≡ token_at bytes
unfolding token_at
token_decimal bytes rest b n e f t count = sym (decimal_is is_digit bytes n count) ∙ (rw (e, f, t) refl)

pub token_hex : (bytes rest : List ℕ) (n : ℕ) → bytes ≡ 36 ∷ rest → n ≡ prefix_len is_hex_byte rest → number_in 1 n bytes ≡ token_at bytes
unfolding token_at
token_hex bytes rest n e count = rw e (sym (marked_is is_hex_byte 36 rest n count))

pub token_binary : (bytes rest : List ℕ) (n : ℕ) → bytes ≡ 37 ∷ rest → n ≡ prefix_len is_binary_byte rest → number_in 1 n bytes ≡ token_at bytes
unfolding token_at
token_binary bytes rest n e count = rw e (sym (marked_is is_binary_byte 37 rest n count))

-- directives
pub directive_is : (bytes : List ℕ) (n : ℕ) → bytes ≡ 46 ∷ drop 1 bytes → n ≡ prefix_len is_letter (drop 1 bytes) → (n ≡ 0 → ⊥)
    → Some (Directive, take (n + 1) bytes) ≡ directive_token (drop 1 bytes)
directive_is bytes n e count some =
    let s : n + 1 ≡ suc n = omega arith in
    let text : take (suc n) bytes ≡ 46 ∷ take n (drop 1 bytes) = ap (λ (x : List ℕ). take (suc n) x) e in
    rw (run_is is_letter (drop 1 bytes) n count, run_length is_letter (drop 1 bytes) n count, ne_eqb n 0 some, s, text) refl

-- strings
quoted : (bytes : List ℕ) (n : ℕ) → begins (λ b. b == 34) (drop n bytes) ≡ true → take (suc n) bytes ≡ take n bytes ++ 34 ∷ []
quoted [] zero h = absurd (false≢true h)
quoted [] (suc n) h = absurd (false≢true h)
quoted (b ∷ bytes) zero h = ap (λ (x : ℕ). x ∷ []) (eqb-true b 34 h)
quoted (b ∷ bytes) (suc n) h = ap (λ (x : List ℕ). b ∷ x) (quoted bytes n h)

pub string_is : (bytes : List ℕ) (n : ℕ) → bytes ≡ 34 ∷ drop 1 bytes → n ≡ prefix_len is_string_byte (drop 1 bytes) → (n ≡ 0 → ⊥)
    → begins (λ b. b == 34) (drop n (drop 1 bytes)) ≡ true
    → Some (Str, take (n + 2) bytes) ≡ string_token (drop 1 bytes)
string_is bytes n e count some quote =
    let s : n + 2 ≡ suc (suc n) = omega arith in
    let text : take (suc (suc n)) bytes ≡ 34 ∷ (take n (drop 1 bytes) ++ 34 ∷ []) =
    ap (λ (x : List ℕ). take (suc (suc n)) x) e ∙ ap (λ (x : List ℕ). 34 ∷ x) (quoted (drop 1 bytes) n quote) in
    rw (run_is is_string_byte (drop 1 bytes) n count, run_length is_string_byte (drop 1 bytes) n count, ne_eqb n 0 some, s, text, quote) refl

pub string_empty : (bytes : List ℕ) (n : ℕ) → n ≡ prefix_len is_string_byte (drop 1 bytes) → n ≡ 0 → None ≡ string_token (drop 1 bytes)
string_empty bytes n count none = rw (run_is is_string_byte (drop 1 bytes) n count, run_length is_string_byte (drop 1 bytes) n count, none) refl

pub string_open : (bytes : List ℕ) (n : ℕ) → n ≡ prefix_len is_string_byte (drop 1 bytes) → (n ≡ 0 → ⊥)
    → begins (λ b. b == 34) (drop n (drop 1 bytes)) ≡ false → None ≡ string_token (drop 1 bytes)
string_open bytes n count some quote = rw (
  run_is is_string_byte (drop 1 bytes) n count,
  run_length is_string_byte (drop 1 bytes) n count,
  ne_eqb n 0
      some,
  quote,
) refl

pub behind : (n : ℕ) (bytes : List ℕ) → take (length bytes - (n + 1)) (drop (n + 1) bytes) ≡ drop n (drop 1 bytes)
behind n bytes =
    let e : n + 1 ≡ 1 + n = omega arith in
    from (n + 1) bytes ∙ ap (λ m. drop m bytes) e ∙ sym (drop-drop n 1 bytes)
