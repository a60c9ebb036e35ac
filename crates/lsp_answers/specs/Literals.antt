-- What is said of a number, and what a directive does. Source: mos65; the words are constants of the
-- code.
use Rattle.std.specs.Prelude.{ℕ, ◌/◌, ◌%◌, ◌==◌, nat_lt, ℤ, pos, negsuc, if◌then◌else◌, List, [], ◌∷◌, ◌++◌, codes, decimal, Option, Some, None}
use Rattle.std.specs.Fmt.{signed_decimal}
use Rattle.std.specs.Option.{option_map}
use Rattle.std.specs.Str.{str_eq_ignore_ascii_case}
use Rattle.warnings.specs.Reaches.{number_alone}
use Rattle.lsp_answers.specs.declared.written.TheConstants.{BYTE_EFFECT, WORD_EFFECT, DBYTE_EFFECT, RES_EFFECT, END_EFFECT}
use Rattle.model.specs.Reading.{Read, expression_of}
use Rattle.model.specs.Text.{hex_address, hex_byte}
use Rattle.model.specs.Token.{Lexeme, is_printable}

-- ---- a number

-- A bit as a digit: the lowest one of a number.
abbrev pub bit : ℕ → ℕ
bit n = if n % 2 == 0 then 48 else 49

-- The eight bits of a byte.
abbrev pub bits : ℕ → List ℕ
bits b = bit (b / 128) ∷ bit (b / 64) ∷ bit (b / 32) ∷ bit (b / 16) ∷ bit (b / 8) ∷ bit (b / 4)
    ∷ bit (b / 2) ∷ bit b ∷ []

-- The character that a byte is, if it can be printed.
abbrev pub character_words : ℕ → List ℕ
character_words b = if is_printable b then codes " = '" ++ b ∷ codes "'" else []

-- A byte in hex, in decimal and in binary, and as a character.
unfoldable pub byte_words : ℕ → List ℕ
byte_words b = codes "$" ++ hex_byte b ++ codes " = " ++ decimal b ++ codes " = %" ++ bits b
    ++ character_words b

-- Two bytes in hex, in decimal and in binary.
unfoldable pub word_words : ℕ → List ℕ
word_words n = codes "$" ++ hex_address n ++ codes " = " ++ decimal n ++ codes " = %"
    ++ bits (n / 256) ++ bits (n % 256)

-- Any other number in decimal.
abbrev pub number_words : ℤ → List ℕ
number_words (pos n) = if nat_lt n 256 then byte_words n
    else if nat_lt n 65536 then word_words n else signed_decimal (pos n)
number_words (negsuc n) = signed_decimal (negsuc n)

abbrev pub number_read : Read → Option ℤ
number_read None = None
number_read (Some read) = number_alone read.0

-- Of a token that is a number or a character: the number that the grammar reads in it.
abbrev pub literal_words : Lexeme → Option (List ℕ)
literal_words t = option_map number_words (number_read (expression_of (t ∷ [])))

-- ---- a directive

-- What a directive does, by its name in either letter case.
abbrev pub directive_words : List ℕ → Option (List ℕ)
directive_words text =
    if str_eq_ignore_ascii_case text (codes ".BYTE") then Some BYTE_EFFECT.now
    else if str_eq_ignore_ascii_case text (codes ".WORD") then Some WORD_EFFECT.now
    else if str_eq_ignore_ascii_case text (codes ".DBYTE") then Some DBYTE_EFFECT.now
    else if str_eq_ignore_ascii_case text (codes ".RES") then Some RES_EFFECT.now
    else if str_eq_ignore_ascii_case text (codes ".END") then Some END_EFFECT.now
    else None
