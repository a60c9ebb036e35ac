-- The tokens of a source line. Source: mos65.
use Rattle.std.specs.Prelude.{◌≡◌, ℕ, zero, suc, ◌+◌, ◌-◌, ◌<◌, ◌≤◌, Bool, false, not, ◌||◌, ◌&&◌, ◌==◌, nat_le, if◌then◌else◌, List, [], ◌∷◌, ◌++◌, length, take, drop, Option, Some, None}
use Rattle.std.specs.Str.{byte}
use Rattle.std.specs.List.{list_all}
use Rattle.std.specs.Option.{option_map}
pub use Rattle.model.specs.Digits.{is_hex_byte}
use Rattle.model.specs.declared.expression.TokenKind.{TokenKind}
use Rattle.model.specs.declared.expression.TokenKind.TheVariants.{Word, Directive, Number, Char, Str, Symbol}

-- A token: what it is, its start in its line, counted from 0, and its bytes.
pub record Lexeme : Type 0 where
  pub kind : TokenKind
  pub start : ℕ
  pub text : List ℕ

-- ---- bytes

-- A space or a tab.
abbrev pub is_blank : ℕ → Bool
is_blank b = (b == 32) || (b == 9)

-- $20..$7E.
abbrev pub is_printable : ℕ → Bool
is_printable b = nat_le 32 b && nat_le b 126

-- A byte that may be in a line: $20..$7E or a tab.
abbrev pub is_source_byte : ℕ → Bool
is_source_byte b = is_printable b || (b == 9)

abbrev pub is_digit : ℕ → Bool
is_digit b = nat_le (byte "0") b && nat_le b (byte "9")

abbrev pub is_letter : ℕ → Bool
is_letter b
    = (nat_le (byte "A") b && nat_le b (byte "Z")) || (nat_le (byte "a") b && nat_le b (byte "z"))

-- A letter, a digit or `_`.
abbrev pub is_word_byte : ℕ → Bool
is_word_byte b = is_letter b || is_digit b || (b == byte "_")

abbrev pub is_binary_byte : ℕ → Bool
is_binary_byte b = (b == byte "0") || (b == byte "1")

-- A byte of a string: $20..$7E other than `"`.
abbrev pub is_string_byte : ℕ → Bool
is_string_byte b = is_printable b && not (b == 34)

-- : * = , # ! ( ) [ ] < > + - / & | ^
abbrev pub is_symbol_byte : ℕ → Bool
is_symbol_byte b =
    (b == byte ":") || (b == byte "*") || (b == byte "=") || (b == byte ",") || (b == byte "#")
    || (b == byte "!") || (b == byte "(") || (b == byte ")") || (b == byte "[")
    || (b == byte "]")
    || (b == byte "<") || (b == byte ">") || (b == byte "+") || (b == byte "-") || (b == byte "/")
    || (b == byte "&") || (b == byte "|") || (b == byte "^")

-- ---- one token

-- The longest beginning whose bytes all pass.
abbrev pub run_of : (ℕ → Bool) → List ℕ → List ℕ
run_of passes [] = []
run_of passes (b ∷ bytes) = if passes b then b ∷ run_of passes bytes else []

-- Whether the first byte passes, if there is one.
abbrev pub begins : (ℕ → Bool) → List ℕ → Bool
begins passes [] = false
begins passes (b ∷ bytes) = passes b

-- What a token is, and its bytes.
abbrev pub Found : Type 0
Found = Option (TokenKind × List ℕ)

-- A word goes as far as it can, and has at most 31 bytes.
abbrev pub word_token : List ℕ → Found
word_token bytes =
    let text = run_of is_word_byte bytes in
    if nat_le (length text) 31 then Some (Word, text) else None

-- Digits after a prefix: at least one, and no letter, digit or `_` follows them.
abbrev pub number_token : List ℕ → (ℕ → Bool) → List ℕ → Found
number_token mark passes bytes =
    let digits = run_of passes bytes in
    if length digits == 0 then None
    else if begins is_word_byte (drop (length digits) bytes) then None
    else Some (Number, mark ++ digits)

-- The letters after a `.`, as many as there are.
abbrev pub directive_token : List ℕ → Found
directive_token bytes =
    let letters = run_of is_letter bytes in
    if length letters == 0 then None else Some (Directive, byte "." ∷ letters)

-- One byte $20..$7E and a `'`, after a `'`.
abbrev pub char_token : List ℕ → Found
char_token [] = None
char_token (b ∷ []) = None
char_token (b ∷ c ∷ bytes) = if is_printable b && (c == byte "'")
    then Some (Char, byte "'" ∷ b ∷ byte "'" ∷ []) else None

-- One or more bytes $20..$7E other than `"`, and a `"`, after a `"`.
abbrev pub string_token : List ℕ → Found
string_token bytes =
    let inside = run_of is_string_byte bytes in
    if length inside == 0 then None
    else if begins (λ b. b == 34) (drop (length inside) bytes)
    then Some (Str, 34 ∷ inside ++ 34 ∷ [])
    else None

-- The token at the front of some bytes, if there is one.
unfoldable pub token_at : List ℕ → Found
token_at [] = None
token_at (b ∷ bytes) =
    if is_letter b then word_token (b ∷ bytes)
    else if is_digit b then number_token [] is_digit (b ∷ bytes)
    else if b == byte "$" then number_token (byte "$" ∷ []) is_hex_byte bytes
    else if b == byte "%" then number_token (byte "%" ∷ []) is_binary_byte bytes
    else if b == byte "." then directive_token bytes
    else if b == byte "'" then char_token bytes
    else if b == 34 then string_token bytes
    else if is_symbol_byte b then Some (Symbol, b ∷ [])
    else None

-- ---- all tokens

abbrev pub Tokens : Type 0
Tokens = Option (List Lexeme)

-- A token that was found, before the tokens after it; none of them where there is none.
abbrev pub found_before : ℕ → (ℕ → Tokens) → Found → Tokens
found_before start behind None = None
found_before start behind (Some found) = option_map (λ ts.
    record { kind = found.0; start = start; text = found.1 } ∷ ts) (behind (length found.1 - 1))

-- The tokens of some bytes of a line, from an index on; so many of the bytes still belong to the
-- token before. They are counted off one by one, since recursion goes to a part of its argument.
-- Blanks may be between tokens. Outside a character or a string, `;` begins a comment, which has no
-- tokens.
unfoldable pub tokens_from : ℕ → ℕ → List ℕ → Tokens
tokens_from place covered [] = Some []
tokens_from place (suc covered) (b ∷ bytes) = tokens_from (place + 1) covered bytes
tokens_from place zero (b ∷ bytes) =
    if is_blank b then tokens_from (place + 1) 0 bytes
    else if b == byte ";" then Some []
    else found_before place (λ rest. tokens_from (place + 1) rest bytes) (token_at (b ∷ bytes))

-- The tokens of a line, in order; none if a byte may not be in a source, in a comment too.
unfoldable pub tokens_of : List ℕ → Tokens
tokens_of line = if list_all is_source_byte line then tokens_from 0 0 line else None

-- ---- the places of tokens

-- These tokens come in a line in order, from an index on: each begins at that index or after it,
-- its bytes are those of the line at its start, at least one, and the others come after it.
abbrev pub AreSlices : List ℕ → ℕ → List Lexeme → Type 0
AreSlices line place [] = Unit {0}
AreSlices line place (t ∷ ts) =
    (place ≤ t.start) × (0 < length t.text) × (take (length t.text) (drop t.start line) ≡ t.text)
    × AreSlices line (t.start + length t.text) ts

-- The tokens of a line are slices of it, in order, and no two of them overlap.
abbrev pub TokensAreSlices : Type 0
TokensAreSlices = (line : List ℕ) (ts : List Lexeme) → tokens_of line ≡ Some ts
    → AreSlices line 0 ts
