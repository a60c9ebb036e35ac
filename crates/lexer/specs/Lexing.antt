-- The way over a line, from token to token.
use Rattle.std.specs.Prelude.{ℕ, ◌+◌, ◌==◌, if◌then◌else◌, List, ◌++◌, take, drop, None, Some}
use Rattle.std.specs.Option.{option_map}
use Rattle.model.specs.Token.{Found, Lexeme, Tokens, begins, is_word_byte}
use Rattle.model.specs.declared.expression.TokenKind.TheVariants.{Number}

-- a number of so many digits, after a mark of so many bytes
abbrev pub number_in : ℕ → ℕ → List ℕ → Found
number_in mark digits bytes =
    if digits == 0 then None
    else if begins is_word_byte (drop (mark + digits) bytes) then None
    else Some (Number, take (mark + digits) bytes)

-- the tokens that were found, and those that follow
unfoldable pub then_tokens : List Lexeme → Tokens → Tokens
then_tokens front behind = option_map (λ ts. front ++ ts) behind
