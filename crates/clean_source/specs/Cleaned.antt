-- A source as people save it, and the text that is read in its place. Source: mos65.
use Rattle.std.specs.Prelude.{ℕ, ◌+◌, ◌-◌, ◌==◌, ◌&&◌, ◌||◌, nat_le, nat_lt, Bool, false, if◌then◌else◌, List, [], ◌∷◌, ◌++◌, length, map, take, slice_get, Option, Some, None}
use Rattle.std.specs.List.{list_all}
use Rattle.model.specs.Source.{most_bytes}
use Rattle.model.specs.Token.{Lexeme, Tokens, begins, is_source_byte, tokens_of}

-- ---- a line

-- `?` in place of a byte that may not be in a source.
abbrev pub seen_byte : ℕ → ℕ
seen_byte b = if is_source_byte b then b else 63

abbrev pub end_in : Option Lexeme → ℕ
end_in None = 0
end_in (Some t) = t.start + length t.text

-- Where the last of some tokens ends, counted from 0. Blanks and a comment follow it.
abbrev pub end_of : List Lexeme → ℕ
end_of ts = end_in (slice_get ts (length ts - 1))

-- Whether so many bytes at the front of a line may all be in a source.
abbrev pub is_clean_to : List ℕ → ℕ → Bool
is_clean_to line end = list_all is_source_byte (take end line)

abbrev pub is_clean_by : List ℕ → Tokens → Bool
is_clean_by line None = false
is_clean_by line (Some ts) = is_clean_to line (end_of ts)

-- Whether each byte of a line that may not be in a source stands in its comment: with `?` in its
-- place the line has tokens, and none of them has such a byte.
abbrev pub is_clean_before_comment : List ℕ → Bool
is_clean_before_comment line = is_clean_by line (tokens_of (map seen_byte line))

-- A byte that goes on a character of UTF-8, unless it is the second one of four.
abbrev pub goes_on : ℕ → ℕ → Bool
goes_on before b = nat_le 128 b && nat_lt b 192 && nat_lt before 240

-- What is read in the place of a byte that stands behind another one: `?` for a character that may
-- not be in a source, and `??` for one of four bytes, as UTF-16 counts.
abbrev pub shown_byte : ℕ → ℕ → Option ℕ
shown_byte before b = if is_source_byte b then Some b
    else if goes_on before b then None
    else Some 63

abbrev pub with_byte : Option ℕ → List ℕ → List ℕ
with_byte None bytes = bytes
with_byte (Some b) bytes = b ∷ bytes

unfoldable pub shown_from : ℕ → List ℕ → List ℕ
shown_from before [] = []
shown_from before (b ∷ bytes) = with_byte (shown_byte before b) (shown_from b bytes)

-- A line with `?` for each character of its comment that may not be in a source. A line that has one
-- before its comment stays as it is.
unfoldable pub cleaned_line : List ℕ → List ℕ
cleaned_line line = if is_clean_before_comment line then shown_from 0 line else line

-- ---- the lines of a text

-- LF or CR.
abbrev pub ends_line : ℕ → Bool
ends_line b = (b == 10) || (b == 13)

abbrev pub is_line_feed : ℕ → Bool
is_line_feed b = b == 10

-- How a line ends that ended with this byte: a CR stays before an LF, and is one elsewhere.
abbrev pub end_byte : ℕ → List ℕ → ℕ
end_byte b bytes = if (b == 13) && begins is_line_feed bytes then 13 else 10

-- The bytes of a text with each line cleaned, and with a line begun already.
unfoldable pub cleaned_from : List ℕ → List ℕ → List ℕ
cleaned_from begun [] = cleaned_line begun
cleaned_from begun (b ∷ bytes) =
    if ends_line b then cleaned_line begun ++ end_byte b bytes ∷ cleaned_from [] bytes
    else cleaned_from (begun ++ b ∷ []) bytes

-- ---- the start of a text

abbrev pub is_mark : ℕ → ℕ → ℕ → Bool
is_mark a b c = (a == 239) && (b == 187) && (c == 191)

-- Whether a text begins with a byte-order mark, EF BB BF.
abbrev pub begins_mark : List ℕ → Bool
begins_mark [] = false
begins_mark (a ∷ []) = false
begins_mark (a ∷ b ∷ []) = false
begins_mark (a ∷ b ∷ c ∷ bytes) = is_mark a b c

-- A text without the byte-order marks at its start. More than one is rare.
unfoldable pub unmarked : List ℕ → List ℕ
unmarked [] = []
unmarked (a ∷ []) = a ∷ []
unmarked (a ∷ b ∷ []) = a ∷ b ∷ []
unmarked (a ∷ b ∷ c ∷ bytes) = if is_mark a b c then unmarked bytes else a ∷ b ∷ c ∷ bytes

-- ---- the text

-- The text that is read in the place of a source. One that is too long for a source stays so.
unfoldable pub cleaned : List ℕ → List ℕ
cleaned source = if nat_lt most_bytes (length source) then source
    else cleaned_from [] (unmarked source)
