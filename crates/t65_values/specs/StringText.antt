-- What stands between two `"`. Source: mos65; its escapes are some of those of C.
use Rattle.std.specs.Prelude.{ℕ, ◌==◌, if◌then◌else◌, List, [], ◌∷◌, Option, Some, None}
use Rattle.std.specs.Borrow.{Bor}
use Rattle.std.specs.Option.{option_map}
use Rattle.std.specs.Str.{byte}
use Rattle.model.specs.Digits.{hex_number}
use Rattle.model.specs.Token.{is_string_byte}

-- A byte and the text after it.
abbrev pub Character : Type 0
Character = ℕ × List ℕ

-- The same without where the text lies in memory.
abbrev pub read_view : ℕ × Bor (List ℕ) → Character
read_view read = (read.0, read.1.now)

-- What a byte behind `\` stands for: `n` for LF, `r` for CR, `t` for a tab, `\` and `"` for
-- themselves.
abbrev pub escaped : ℕ → Option ℕ
escaped b =
    if b == byte "n" then Some 10
    else if b == byte "r" then Some 13
    else if b == byte "t" then Some 9
    else if b == 92 then Some 92
    else if b == 34 then Some 34
    else None

-- The byte that two hex digits write.
abbrev pub two_digits : ℕ → ℕ → Option ℕ
two_digits high low = hex_number (high ∷ low ∷ [])

abbrev pub before_text : List ℕ → ℕ → Character
before_text text b = (b, text)

abbrev pub hex_byte : List ℕ → Option Character
hex_byte [] = None
hex_byte (high ∷ []) = None
hex_byte (high ∷ low ∷ text) = option_map (before_text text) (two_digits high low)

-- What stands behind `\`: a byte that stands for one, or `x` and two hex digits.
abbrev pub escape_of : List ℕ → Option Character
escape_of [] = None
escape_of (b ∷ text) = if b == byte "x" then hex_byte text
    else option_map (before_text text) (escaped b)

-- A `\` before anything else is itself.
abbrev pub or_backslash : List ℕ → Option Character → Character
or_backslash text (Some read) = read
or_backslash text None = (92, text)

-- The next byte of a string, and the text after it. There is none at a `"`, where the line ends, and
-- at what is no visible character of ASCII.
abbrev pub character_of : List ℕ → Option Character
character_of [] = None
character_of (b ∷ text) =
    if b == 92 then Some (or_backslash text (escape_of text))
    else if is_string_byte b then Some (b, text)
    else None
