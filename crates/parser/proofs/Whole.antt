-- What is left after an expression, and that the expression is the longest.
use Rattle.std.proofs.Common.{◌≡◌, ◌+◌, ◌-◌, ◌≤◌, List, ◌++◌, length, drop, Some, sym, ap, ◌∙◌, arith}
use Rattle.std.proofs.lemmas.List.{length-append, length-map}
use Rattle.std.proofs.Math.Seq.{drop-append_seam}
use Rattle.line_parts.specs.declared.token.Token.{Token}
use Rattle.line_parts.specs.Lexemes.{lexeme_of, lexemes}
use Rattle.model.specs.Token.{Lexeme}
use Rattle.model.specs.Expression.{Term, whole}
use Rattle.model.specs.Reading.{expression_of}
use Rattle.parser.proofs.Derived.{Spelled, found_derived}

pub found_spelled : (tokens : List Lexeme) (e : Term) (rest : List Lexeme) → expression_of tokens ≡ Some (e, rest) → Spelled whole 8 e tokens rest
unfolding expression_of
found_spelled tokens e rest h = found_derived tokens e rest h

behind : (front tokens rest : List Lexeme) → tokens ≡ front ++ rest → (length rest ≤ length tokens) × (drop (length tokens - length rest) tokens ≡ rest)
behind front tokens rest e =
    let long : length tokens ≡ length front + length rest = ap length e ∙ length-append front rest in
    let away : length tokens - length rest ≡ length front = omega (arith, long) in
    (omega (arith, long), rw (away, e) (drop-append_seam front rest))

pub rest_within : (tokens rest : List Token) (e : Term) → Some (e, lexemes rest) ≡ expression_of (lexemes tokens) → length rest ≤ length tokens
rest_within tokens rest e h =
    let s = found_spelled (lexemes tokens) e (lexemes rest) (sym h) in
    let b = (behind s.front (lexemes tokens) (lexemes rest) s.cut).0 in
    rw (length-map rest lexeme_of, length-map tokens lexeme_of) at b

pub rest_dropped : (tokens rest : List Token) (e : Term) → Some (e, lexemes rest) ≡ expression_of (lexemes tokens)
    → drop (length tokens - length rest) (lexemes tokens) ≡ lexemes rest
rest_dropped tokens rest e h =
    let s = found_spelled (lexemes tokens) e (lexemes rest) (sym h) in
    let b = (behind s.front (lexemes tokens) (lexemes rest) s.cut).1 in
    rw (length-map rest lexeme_of, length-map tokens lexeme_of) at b
