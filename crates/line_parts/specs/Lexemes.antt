-- Tokens without where they lie in memory.
use Rattle.std.specs.Prelude.{List, ℕ, map, Option}
use Rattle.std.specs.Borrow.{Bor}
use Rattle.std.specs.Option.{option_map}
use Rattle.line_parts.specs.declared.token.Token.{Token}
use Rattle.model.specs.declared.expression.TokenKind.{TokenKind}
use Rattle.model.specs.Token.{Lexeme, Found}

abbrev pub lexeme_of : Token → Lexeme
lexeme_of t = record { kind = t.kind; start = t.start; text = t.text.now }

abbrev pub lexemes : List Token → List Lexeme
lexemes ts = map lexeme_of ts

-- what a token is, and its bytes
abbrev pub found_of : Option (TokenKind × Bor (List ℕ)) → Found
found_of found = option_map (λ f. (f.0, f.1.now)) found
