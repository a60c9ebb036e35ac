-- The longest beginning of some tokens that is an expression, computed. A law, which is proved,
-- says that this is the grammar's.
use Rattle.std.specs.Prelude.{◌≡◌, ℕ, zero, suc, ◌==◌, Bool, false, if◌then◌else◌, List, [], ◌∷◌, ◌++◌, length, Option, Some, None, IfSome, IfNone}
use Rattle.std.specs.Str.{byte}
use Rattle.std.specs.Option.{option_map, option_and_then, option_map_or}
use Rattle.model.specs.declared.expression.Operator.{Operator}
use Rattle.model.specs.Token.{Lexeme}
use Rattle.model.specs.Expression.{Term, negated, binary, low, high, symbol_of, operator_of, atom_of, IsExpression, Longest}

-- What was read, and the tokens left after it.
abbrev pub Read : Type 0
Read = Option (Term × List Lexeme)

abbrev pub is_symbol : ℕ → Lexeme → Bool
is_symbol b t = option_map_or (λ s. s == b) (symbol_of t) false

-- What was read inside a bracket, if the next token closes it.
abbrev pub closed_by : Term → List Lexeme → Read
closed_by e [] = None
closed_by e (t ∷ ts) = if is_symbol (byte "]") t then Some (e, ts) else None

abbrev pub primary_with : (List Lexeme → Read) → List Lexeme → Read
primary_with inner [] = None
primary_with inner (t ∷ ts) = if is_symbol (byte "[") t
    then option_and_then (λ p. closed_by p.0 p.1) (inner ts)
    else option_map (λ e. (e, ts)) (atom_of t)

abbrev pub unary_with : (List Lexeme → Read) → List Lexeme → Read
unary_with inner [] = None
unary_with inner (t ∷ ts) = if is_symbol (byte "-") t
    then option_map (λ p. (negated p.0, p.1)) (primary_with inner ts)
    else primary_with inner (t ∷ ts)

-- An operator and its right side, and the tokens after them.
abbrev pub next_with : (List Lexeme → Read) → List Lexeme → Option (Operator × Term × List Lexeme)
next_with inner [] = None
next_with inner (t ∷ ts)
    = option_and_then (λ op. option_map (λ p. (op, p.0, p.1)) (unary_with inner ts)) (operator_of t)

abbrev pub went_on : (Term → List Lexeme → Term × List Lexeme) → Term → List Lexeme
    → Option (Operator × Term × List Lexeme) → Term × List Lexeme
went_on go e ts None = (e, ts)
went_on go e ts (Some q) = go (binary q.0 e q.1) q.2

-- At most so many operators more.
abbrev pub more_with : (List Lexeme → Read) → ℕ → Term → List Lexeme → Term × List Lexeme
more_with inner zero e ts = (e, ts)
more_with inner (suc n) e ts = went_on (λ x xs. more_with inner n x xs) e ts (next_with inner ts)

abbrev pub sum_with : (List Lexeme → Read) → List Lexeme → Read
sum_with inner ts = option_map (λ p. more_with inner (length p.1) p.0 p.1) (unary_with inner ts)

-- What stands inside a bracket, where brackets may nest so deep.
abbrev pub inner_at : ℕ → List Lexeme → Read
inner_at zero ts = None
inner_at (suc d) ts = sum_with (inner_at d) ts

-- A sum, or one byte of it after `<` or `>`.
abbrev pub whole_with : (List Lexeme → Read) → List Lexeme → Read
whole_with inner [] = None
whole_with inner (t ∷ ts) =
    if is_symbol (byte "<") t then option_map (λ p. (low p.0, p.1)) (sum_with inner ts)
    else if is_symbol (byte ">") t then option_map (λ p. (high p.0, p.1)) (sum_with inner ts)
    else sum_with inner (t ∷ ts)

-- The longest expression at the front of some tokens, and the tokens after it.
unfoldable pub expression_of : List Lexeme → Read
expression_of tokens = whole_with (inner_at 8) tokens

-- What is read is the longest beginning that is an expression; if nothing is read, no beginning is
-- one.
abbrev pub ReadsLongest : Type 0
ReadsLongest = (tokens : List Lexeme)
    → IfSome (expression_of tokens) (λ p. Longest tokens p.0 p.1)
    × IfNone (expression_of tokens) ((e : Term) (ts more : List Lexeme) → tokens ≡ ts ++ more
    → IsExpression e ts → ⊥)
