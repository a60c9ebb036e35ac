-- Expressions without where they lie in memory.
use Rattle.std.specs.Prelude.{List, Option}
use Rattle.std.specs.Borrow.{Bor}
use Rattle.std.specs.Option.{option_map}
use Rattle.line_parts.specs.declared.token.Token.{Token}
use Rattle.line_parts.specs.declared.tree.Expr.{Expr}
use Rattle.line_parts.specs.declared.tree.Expr.TheVariants.{Literal, Name, Here, Negated', Binary', Low', High'}
use Rattle.model.specs.declared.expression.Operator.{Operator}
use Rattle.model.specs.Token.{Lexeme}
use Rattle.model.specs.Expression.{Term, literal, name, here, negated, binary, low, high}
use Rattle.model.specs.Reading.{Read}
use Rattle.line_parts.specs.Lexemes.{lexemes}

abbrev pub term_view : Expr → Term
term_view (Literal v) = literal v
term_view (Name text) = name text.now
term_view Here = here
term_view (Negated' p e) = negated (term_view e)
term_view (Binary' op p a q b) = binary op (term_view a) (term_view b)
term_view (Low' p e) = low (term_view e)
term_view (High' p e) = high (term_view e)

-- An expression, and the tokens after it.
abbrev pub read_view : Option (Expr × Bor (List Token)) → Read
read_view r = option_map (λ p. (term_view p.0, lexemes p.1.now)) r

-- An operator, its right side, and the tokens after it.
abbrev pub next_view : Option (Operator × Expr × Bor (List Token))
    → Option (Operator × Term × List Lexeme)
next_view r = option_map (λ q. (q.0, term_view q.1, lexemes q.2.now)) r
