-- The grammar of expressions. Source: mos65.
-- expr = ["<" | ">"] sum, sum = unary {operator unary}, unary = ["-"] primary,
-- primary = number | char | name | "*" | "[" sum "]", with brackets nested at most 8 deep.
use Rattle.std.specs.Prelude.{◌≡◌, ℕ, suc, ◌+◌, ◌*◌, ◌^◌, ◌≤◌, ℤ, pos, ◌==◌, nat_lt, if◌then◌else◌, List, [], ◌∷◌, ◌++◌, length, slice_get, Option, Some, None}
use Rattle.std.specs.Str.{byte}
use Rattle.std.specs.Option.{option_map, option_and_then}
pub use Rattle.model.specs.Digits.{digit_value}
use Rattle.model.specs.declared.expression.TokenKind.{TokenKind}
use Rattle.model.specs.declared.expression.TokenKind.TheVariants.{Word, Directive, Number, Char, Str, Symbol}
use Rattle.model.specs.declared.expression.Operator.{Operator}
use Rattle.model.specs.declared.expression.Operator.TheVariants.{Add, Subtract, Multiply, Divide, And, Or, ExclusiveOr}
use Rattle.model.specs.Token.{Lexeme}

-- An expression. A literal has no number if that is above 2^31 - 1.
pub data Term : Type 0 where
  literal : Option ℤ → Term
  name : List ℕ → Term
  here : Term
  negated : Term → Term
  binary : Operator → Term → Term → Term
  low : Term → Term
  high : Term → Term

-- ---- single tokens

-- The number that digits write after a number.
abbrev pub number_after : ℕ → ℕ → List ℕ → ℕ
number_after base n [] = n
number_after base n (b ∷ digits) = number_after base (n * base + digit_value b) digits

-- The number that a number's text writes: `$` and hex digits, `%` and binary digits, or decimal
-- digits.
abbrev pub number_of_text : List ℕ → ℕ
number_of_text [] = 0
number_of_text (b ∷ digits) =
    if b == byte "$" then number_after 16 0 digits
    else if b == byte "%" then number_after 2 0 digits
    else number_after 10 0 (b ∷ digits)

-- A literal's number, if it is at most 2^31 - 1.
abbrev pub in_range : ℕ → Option ℤ
in_range n = if nat_lt n (2 ^ 31) then Some (pos n) else None

-- The symbol that a token is, if it is one.
abbrev pub symbol_in : TokenKind → List ℕ → Option ℕ
symbol_in Symbol text = slice_get text 0
symbol_in Word text = None
symbol_in Directive text = None
symbol_in Number text = None
symbol_in Char text = None
symbol_in Str text = None

abbrev pub symbol_of : Lexeme → Option ℕ
symbol_of t = symbol_in t.kind t.text

abbrev pub operator_for : ℕ → Option Operator
operator_for b =
    if b == byte "+" then Some Add
    else if b == byte "-" then Some Subtract
    else if b == byte "*" then Some Multiply
    else if b == byte "/" then Some Divide
    else if b == byte "&" then Some And
    else if b == byte "|" then Some Or
    else if b == byte "^" then Some ExclusiveOr
    else None

-- The operator that a token is, if it is one.
abbrev pub operator_of : Lexeme → Option Operator
operator_of t = option_and_then operator_for (symbol_of t)

abbrev pub star_term : ℕ → Option Term
star_term b = if b == byte "*" then Some here else None

-- A token that is an expression by itself: a number, a character, a name, or `*`, the line's
-- address.
abbrev pub atom_in : TokenKind → List ℕ → Option Term
atom_in Word text = Some (name text)
atom_in Number text = Some (literal (in_range (number_of_text text)))
atom_in Char text = option_map (λ b. literal (Some (pos b))) (slice_get text 1)
atom_in Symbol text = option_and_then star_term (slice_get text 0)
atom_in Directive text = None
atom_in Str text = None

abbrev pub atom_of : Lexeme → Option Term
atom_of t = atom_in t.kind t.text

-- ---- the grammar

pub data Level : Type 0 where
  primary : Level
  unary : Level
  sum : Level
  whole : Level

-- These tokens are an expression of a level, with brackets nested at most so deep. Operators apply
-- strictly from left to right.
pub data Derives : Level → ℕ → Term → List Lexeme → Type 0 where
  atom : {d : ℕ} (t : Lexeme) {e : Term} → atom_of t ≡ Some e → Derives primary d e (t ∷ [])
  group : {d : ℕ} (t u : Lexeme) {e : Term} {ts : List Lexeme} → symbol_of t ≡ Some (byte "[")
      → symbol_of u ≡ Some (byte "]") → Derives sum d e ts
      → Derives primary (suc d) e (t ∷ ts ++ u ∷ [])
  plain : {d : ℕ} {e : Term} {ts : List Lexeme} → Derives primary d e ts → Derives unary d e ts
  minus : {d : ℕ} (t : Lexeme) {e : Term} {ts : List Lexeme} → symbol_of t ≡ Some (byte "-")
      → Derives primary d e ts → Derives unary d (negated e) (t ∷ ts)
  single : {d : ℕ} {e : Term} {ts : List Lexeme} → Derives unary d e ts → Derives sum d e ts
  chain : {d : ℕ} (t : Lexeme) {op : Operator} {a b : Term} {ls rs : List Lexeme}
      → operator_of t ≡ Some op → Derives sum d a ls → Derives unary d b rs
      → Derives sum d (binary op a b) (ls ++ t ∷ rs)
  bare : {d : ℕ} {e : Term} {ts : List Lexeme} → Derives sum d e ts → Derives whole d e ts
  low_byte : {d : ℕ} (t : Lexeme) {e : Term} {ts : List Lexeme} → symbol_of t ≡ Some (byte "<")
      → Derives sum d e ts → Derives whole d (low e) (t ∷ ts)
  high_byte : {d : ℕ} (t : Lexeme) {e : Term} {ts : List Lexeme} → symbol_of t ≡ Some (byte ">")
      → Derives sum d e ts → Derives whole d (high e) (t ∷ ts)

-- These tokens are an expression.
abbrev pub IsExpression : Term → List Lexeme → Type 0
IsExpression e ts = Derives whole 8 e ts

-- The longest beginning of some tokens that is an expression, and the tokens after it.
pub record Longest (tokens : List Lexeme) (term : Term) (rest : List Lexeme) : Type 0 where
  pub front : List Lexeme
  pub cut : tokens ≡ front ++ rest
  pub derived : IsExpression term front
  pub longest : (e : Term) (ts more : List Lexeme) → tokens ≡ ts ++ more → IsExpression e ts
      → length ts ≤ length front

-- No tokens are two expressions.
abbrev pub OneExpression : Type 0
OneExpression = (a b : Term) (ts : List Lexeme) → IsExpression a ts → IsExpression b ts → a ≡ b
