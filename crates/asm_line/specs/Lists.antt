-- Lists of expressions, an expression at a time.
use Rattle.std.specs.Prelude.{Bool, true, false, List, [], ◌∷◌, Option, Some, None, if◌then◌else◌}
use Rattle.model.specs.Token.{Lexeme}
use Rattle.model.specs.Reading.{is_symbol}

-- whether a comma comes next, which it doesn't where no token is left; no answer where another
-- token comes
abbrev pub goes_on : List Lexeme → Option Bool
goes_on [] = Some false
goes_on (c ∷ ts) = if is_symbol 44 c then Some true else None
