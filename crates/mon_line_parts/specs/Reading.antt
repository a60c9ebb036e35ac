-- What stands in a line, read from left to right. Source: mos65.
use Rattle.std.specs.Prelude.{ℕ, ◌+◌, ◌==◌, ◌||◌, not, nat_lt, Bool, min, if◌then◌else◌, List, [], ◌∷◌, length, take, drop, Option, Some, None, Result, Ok, Err}
use Rattle.std.specs.List.{prefix_len}
use Rattle.std.specs.Option.{option_and_then, option_map}
use Rattle.std.specs.Str.{byte, str_eq_ignore_ascii_case}
use Rattle.lexer.specs.Front.{is_next}
use Rattle.model.specs.Digits.{hex_value, number_from}
use Rattle.model.specs.Token.{begins, is_blank, is_word_byte}
use Rattle.mon_line_parts.specs.declared.slip.Lack.{Lack}
use Rattle.mon_line_parts.specs.declared.slip.Flaw.{Flaw}
use Rattle.mon_line_parts.specs.declared.slip.Flaw.TheVariants.{Unknown, Several, Missing, Unreadable, Behind, NoName, Range, NoBytes, OtherSource, NoSource, Many, Long}

-- What is wrong in a line that asks for nothing that can be done: no word or more than one word
-- begins so; something is missing; a piece cannot be read there, is left over, or is no name; a
-- number is not between two others; no line of the source from a line on has bytes, a file is not
-- the source, or no line of a source is known; there are more than fit; the line is too long.
pub data SeenFlaw : Type 0 where
  unknown : List ℕ → SeenFlaw
  several : List ℕ → SeenFlaw
  missing : Lack → SeenFlaw
  unreadable : List ℕ → SeenFlaw
  behind : List ℕ → SeenFlaw
  no_name : List ℕ → SeenFlaw
  range : ℕ → ℕ → SeenFlaw
  no_bytes : ℕ → SeenFlaw
  other_source : List ℕ → SeenFlaw
  no_source : SeenFlaw
  many : SeenFlaw
  long : SeenFlaw

-- The same without where its pieces lie in memory.
abbrev pub flaw_view : Flaw → SeenFlaw
flaw_view (Unknown word) = unknown word.now
flaw_view (Several word) = several word.now
flaw_view (Missing lack) = missing lack
flaw_view (Unreadable piece) = unreadable piece.now
flaw_view (Behind piece) = behind piece.now
flaw_view (NoName word) = no_name word.now
flaw_view (Range least most) = range least most
flaw_view (NoBytes line) = no_bytes line
flaw_view (OtherSource name) = other_source name.now
flaw_view NoSource = no_source
flaw_view Many = many
flaw_view Long = long

-- What was read and the text after it, or why it is nothing.
abbrev pub Reads : Type 0 → Type 0
Reads X = Result (X × List ℕ) SeenFlaw

-- What is read next, from the text after what was read.
abbrev pub and_then : {X Y : Type 0} → Reads X → (X → List ℕ → Reads Y) → Reads Y
and_then (Ok read) next = next read.0 read.1
and_then (Err why) next = Err why

-- ---- words and signs; blanks may come after each

abbrev pub is_empty : List ℕ → Bool
is_empty text = length text == 0

-- `;` begins a comment, which counts as nothing.
abbrev pub without_comment : List ℕ → List ℕ
without_comment [] = []
without_comment (b ∷ text) = if b == byte ";" then [] else b ∷ text

-- A text without the blanks in front of it.
abbrev pub skip : List ℕ → List ℕ
skip text = without_comment (drop (prefix_len is_blank text) text)

abbrev pub after : ℕ → List ℕ → List ℕ
after count text = skip (drop count text)

-- The text after a sign, if the sign comes next.
abbrev pub past : ℕ → List ℕ → List ℕ
past sign text = if is_next sign text then after 1 text else text

-- The letters, digits and `_` at the front, and the text after them.
abbrev pub word_of : List ℕ → List ℕ
word_of text = take (prefix_len is_word_byte text) text

abbrev pub after_word : List ℕ → List ℕ
after_word text = after (prefix_len is_word_byte text) text

-- A byte of a name of an image: a letter, a digit, or one of `_ @ . :`.
abbrev pub is_name_byte : ℕ → Bool
is_name_byte b = is_word_byte b || b == byte "@" || b == byte "." || b == byte ":"

-- Such bytes at the front, and the text after them.
abbrev pub image_word : List ℕ → List ℕ
image_word text = take (prefix_len is_name_byte text) text

abbrev pub after_image_word : List ℕ → List ℕ
after_image_word text = after (prefix_len is_name_byte text) text

-- Whether a word comes next, capitals or not.
abbrev pub is_word : List ℕ → List ℕ → Bool
is_word word text = str_eq_ignore_ascii_case (word_of text) word

abbrev pub without_quote : List ℕ → List ℕ
without_quote [] = []
without_quote (b ∷ text) = if b == 39 then text else b ∷ text

-- A character between two `'`, the second of which may be missing, and the text after it.
abbrev pub character_of : List ℕ → Option (ℕ × List ℕ)
character_of [] = None
character_of (quote ∷ []) = None
character_of (quote ∷ b ∷ text) = if quote == 39 then Some (b, skip (without_quote text)) else None

-- What a byte behind a backslash stands for: `\n` is LF, `\t` is a tab, `\\` and `\"` are the second
-- byte.
abbrev pub escaped : ℕ → Option ℕ
escaped b =
    if b == byte "n" then Some 10
    else if b == byte "t" then Some 9
    else if b == 92 then Some 92
    else if b == 34 then Some 34
    else None

-- What a backslash and the byte behind it are: one byte, or the backslash alone if they stand for
-- nothing.
abbrev pub with_escape : Option ℕ → List ℕ → ℕ × List ℕ
with_escape (Some b) text = (b, drop 1 text)
with_escape None text = (92, text)

-- The next byte between quotes, and the text after it. There is none at a `"`, or where the line ends.
abbrev pub quoted_next : List ℕ → Option (ℕ × List ℕ)
quoted_next [] = None
quoted_next (b ∷ []) = if b == 34 then None else Some (b, [])
quoted_next (b ∷ c ∷ text) =
    if b == 34 then None
    else if b == 92 then Some (with_escape (escaped c) (c ∷ text))
    else Some (b, c ∷ text)

-- ---- names of files

abbrev pub is_no_quote : ℕ → Bool
is_no_quote b = not (b == 34)

abbrev pub is_no_blank : ℕ → Bool
is_no_blank b = not (is_blank b)

abbrev pub up_to : (ℕ → Bool) → List ℕ → List ℕ
up_to is_part text = take (prefix_len is_part text) text

abbrev pub behind_part : (ℕ → Bool) → List ℕ → List ℕ
behind_part is_part text = drop (prefix_len is_part text) text

-- A file's name and the text after it: what stands between two `"`, of which the second may be
-- missing, otherwise what stands before the first blank.
abbrev pub file_of : List ℕ → List ℕ × List ℕ
file_of text = if is_next 34 text
    then (up_to is_no_quote (drop 1 text), after 1 (behind_part is_no_quote (drop 1 text)))
    else (up_to is_no_blank text, after 0 (behind_part is_no_blank text))

-- ---- numbers

abbrev pub if_below : ℕ → ℕ → Option ℕ
if_below base digit = if nat_lt digit base then Some digit else None

-- The value of a digit of a base.
abbrev pub digit_in : ℕ → ℕ → Option ℕ
digit_in base b = option_and_then (if_below base) (hex_value b)

-- The highest number that is told apart from those above it.
abbrev pub at_most_32_bits : ℕ → ℕ
at_most_32_bits number = min 4294967295 number

-- The number that digits to a base write, if there is a digit; at most 2^32 - 1.
unfoldable pub number_in : ℕ → List ℕ → Option ℕ
number_in base digits = if is_empty digits then None
    else option_map at_most_32_bits (number_from (digit_in base) base 0 digits)
