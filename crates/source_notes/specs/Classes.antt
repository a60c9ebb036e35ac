-- The classes of the bytes of a line. Source: mos65.
use Rattle.std.specs.Prelude.{ℕ, ◌==◌, Bool, not}
use Rattle.model.specs.Token.{is_blank, is_digit, is_hex_byte, is_source_byte, is_word_byte}
use Rattle.source_notes.specs.declared.runs.Class.{Class}
use Rattle.source_notes.specs.declared.runs.Class.TheVariants.{Blank, Word, Decimal, Hex, Line, Unquoted}

abbrev pub is_in : Class → ℕ → Bool
is_in Blank = is_blank
is_in Word = is_word_byte
is_in Decimal = is_digit
is_in Hex = is_hex_byte
is_in Line = is_source_byte
is_in Unquoted = λ b. not (b == 34)
