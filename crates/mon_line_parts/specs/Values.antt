-- Values: numbers, names, lines of the source, and sums of them. Source: mos65.
use Rattle.std.specs.Prelude.{ℕ, zero, suc, ◌+◌, ℤ, pos, negsuc, ◌+ℤ◌, ◌-ℤ◌, ◌==◌, ◌&&◌, ◌||◌, nat_le, nat_lt, is_some, Bool, true, false, codes, if◌then◌else◌, List, [], ◌∷◌, ◌++◌, drop, length, Option, Some, None, Ok, Err}
use Rattle.std.specs.Int.{saturate_signed, w64}
use Rattle.std.specs.Option.{option_or}
use Rattle.std.specs.Str.{byte, str_eq_ignore_ascii_case}
use Rattle.lexer.specs.Front.{is_next}
pub use Rattle.source_map.specs.Lines.{PlacesView}
pub use Rattle.source_map.specs.Names.{address_of}
use Rattle.mon_line_parts.specs.Reading.{Reads, SeenFlaw, missing, unreadable, no_name, range, many, after, after_image_word, after_word, and_then, character_of, image_word, is_empty, number_in, past, quoted_next, word_of}
use Rattle.mon_line_parts.specs.SourceLines.{after_line, file_word, line_address, line_number, no_line_of, own_line}
use Rattle.mon_line_parts.specs.declared.slip.Lack.{Lack}
use Rattle.mon_line_parts.specs.declared.slip.Lack.TheVariants as lacking
use Rattle.mon_line_parts.specs.declared.values.Kind.{Kind}
use Rattle.mon_line_parts.specs.declared.values.Kind.TheVariants.{Address, Byte, Word, Bit, Count}

-- What is missing where no value of a kind stands.
abbrev pub lack_of : Kind → Lack
lack_of (Address pc) = lacking.Address
lack_of Byte = lacking.Value
lack_of Word = lacking.Value
lack_of Bit = lacking.Value
lack_of Count = lacking.Number

-- The lowest and the highest value of a kind.
abbrev pub least_of : Kind → ℕ
least_of (Address pc) = 0
least_of Byte = 0
least_of Word = 0
least_of Bit = 0
least_of Count = 1

abbrev pub most_of : Kind → ℕ
most_of (Address pc) = 65535
most_of Byte = 255
most_of Word = 65535
most_of Bit = 1
most_of Count = 1000000000

-- ---- one number or name

-- Where an address is meant, `PC` is the program counter, also if the program has a name that is
-- written so.
abbrev pub counter_word : Kind → List ℕ → Option ℕ
counter_word (Address pc) word
    = if str_eq_ignore_ascii_case word (codes "PC") then Some pc else None
counter_word Byte word = None
counter_word Word word = None
counter_word Bit word = None
counter_word Count word = None

-- Where an address is meant, four hex digits are one.
abbrev pub address_word : Kind → List ℕ → Option ℕ
address_word (Address pc) word = if length word == 4 then number_in 16 word else None
address_word Byte word = None
address_word Word word = None
address_word Bit word = None
address_word Count word = None

-- Hex digits may stand behind `0x`, capitals or not.
abbrev pub marked_number : List ℕ → Option ℕ
marked_number [] = None
marked_number (first ∷ []) = None
marked_number (first ∷ mark ∷ digits)
    = if first == byte "0" && (mark == byte "x" || mark == byte "X") then number_in 16 digits
    else None

-- The number of a word: of the program counter, of a name, of what is an address alone, of hex digits
-- behind `0x`, of decimal digits.
abbrev pub number_of : PlacesView → Kind → List ℕ → Option ℕ
number_of places kind word = option_or (counter_word kind word)
    (option_or (address_of places.names word)
    (option_or (address_word kind word) (option_or (marked_number word) (number_in 10 word))))

-- A number that was read, or what is missing.
abbrev pub number_or : SeenFlaw → Option ℕ → List ℕ → Reads ℤ
number_or why (Some number) rest = Ok (pos number, rest)
number_or why None rest = Err why

-- Whether an address is meant.
abbrev pub is_place : Kind → Bool
is_place (Address pc) = true
is_place Byte = false
is_place Word = false
is_place Bit = false
is_place Count = false

-- Why a text begins with no number: an address may be meant that has a line of another file; nothing
-- can be read; or the word is no name.
unfoldable pub why_none : PlacesView → Kind → List ℕ → SeenFlaw
why_none places kind text =
    if is_place kind && is_some (line_number text) then no_line_of places (file_word text)
    else if is_empty (word_of text) then unreadable text
    else no_name (word_of text)

abbrev pub named_number : PlacesView → Kind → Lack → List ℕ → Reads ℤ
named_number places kind lack text =
    if is_empty text then Err (missing lack)
    else if is_empty (word_of text) then Err (why_none places kind text)
    else number_or (why_none places kind text) (number_of places kind (word_of text)) (after_word text)

-- The file and the line of the source that stand where an address is meant.
abbrev pub line_asked : PlacesView → Kind → List ℕ → Option (ℕ × ℕ)
line_asked places kind text = if is_place kind then own_line places text else None

abbrev pub line_or : PlacesView → Option (ℕ × ℕ) → List ℕ → Reads ℤ → Reads ℤ
line_or places (Some line) text other = line_address places line.0 line.1 (after_line text)
line_or places None text other = other

-- A line of the source where an address is meant, or else a word.
abbrev pub line_or_number : PlacesView → Kind → Lack → List ℕ → Reads ℤ
line_or_number places kind lack text
    = line_or places (line_asked places kind text) text (named_number places kind lack text)

-- The address of a name of an image that stands at the front, if it has more bytes than the word
-- there.
abbrev pub image_address : PlacesView → List ℕ → Option ℕ
image_address places text = if nat_lt (length (word_of text)) (length (image_word text))
    then address_of places.names (image_word text) else None

abbrev pub image_number : Option ℕ → List ℕ → Reads ℤ → Reads ℤ
image_number (Some address) text other = Ok (pos address, after_image_word text)
image_number None text other = other

-- A name of an image, or else a line of the source or a word.
abbrev pub name_or_number : PlacesView → Kind → Lack → List ℕ → Reads ℤ
name_or_number places kind lack text
    = image_number (image_address places text) text (line_or_number places kind lack text)

abbrev pub character_or : Option (ℕ × List ℕ) → Reads ℤ → Reads ℤ
character_or (Some read) other = Ok (pos read.0, read.1)
character_or None other = other

-- Hex digits after `$`, binary digits after `%`, a character, or a word.
unfoldable pub atom_of : PlacesView → Kind → Lack → List ℕ → Reads ℤ
atom_of places kind lack text =
    if is_next (byte "$") text
    then number_or (missing lacking.HexDigits) (number_in 16 (word_of (after 1 text))) (after_word (after 1 text))
    else if is_next (byte "%") text
    then number_or (missing lacking.BinaryDigits) (number_in 2 (word_of (after 1 text))) (after_word (after 1 text))
    else character_or (character_of text) (name_or_number places kind lack text)

-- ---- sums

abbrev pub is_sign : List ℕ → Bool
is_sign text = is_next (byte "+") text || is_next (byte "-") text

-- The line of the source that stands alone where an address is meant: no name of an image stands
-- there, and no sum of a line.
abbrev pub line_alone : PlacesView → List ℕ → Option (ℕ × ℕ)
line_alone places text = if is_some (image_address places text) || is_sign (after_line text) then None
    else own_line places text

-- A sum stays within 64 bits.
abbrev pub plus : ℤ → ℤ → List ℕ → Reads ℤ
plus total number rest = Ok (saturate_signed w64 (total +ℤ number), rest)

abbrev pub minus : ℤ → ℤ → List ℕ → Reads ℤ
minus total number rest = Ok (saturate_signed w64 (total -ℤ number), rest)

-- A sign and a number, added to what comes before or taken from it.
unfoldable pub term_of : PlacesView → Kind → ℤ → List ℕ → Reads ℤ
term_of places kind total text =
    if is_next (byte "+") text
    then and_then (atom_of places kind lacking.Addend (after 1 text)) (plus total)
    else and_then (atom_of places kind lacking.Subtrahend (after 1 text)) (minus total)

-- The terms behind a first one; so many at most. Each has a byte at least, so as many as there are
-- bytes are enough.
unfoldable pub terms_of : ℕ → PlacesView → Kind → ℤ → List ℕ → Reads ℤ
terms_of zero places kind total text = Ok (total, text)
terms_of (suc n) places kind total text = if is_sign text
    then and_then (term_of places kind total text) (λ sum rest. terms_of n places kind sum rest)
    else Ok (total, text)

-- A sum that lies between two numbers.
abbrev pub within : ℕ → ℕ → ℤ → List ℕ → Reads ℕ
within least most (pos n) rest = if nat_le least n && nat_le n most then Ok (n, rest)
    else Err (range least most)
within least most (negsuc n) rest = Err (range least most)

-- A sum that is a value of a kind.
unfoldable pub sum_of : PlacesView → Kind → List ℕ → Reads ℕ
sum_of places kind text = and_then (atom_of places kind (lack_of kind) text) (λ first rest.
    and_then (terms_of (length rest) places kind first rest) (within (least_of kind) (most_of kind)))

-- ---- flags, counts, and bytes

-- The value of a flag.
abbrev pub as_flag : ℕ → List ℕ → Reads Bool
as_flag value rest = Ok (value == 1, rest)

abbrev pub bit_of : PlacesView → List ℕ → Reads Bool
bit_of places text = and_then (sum_of places Bit text) as_flag

abbrev pub some_count : ℕ → List ℕ → Reads (Option ℕ)
some_count number rest = Ok (Some number, rest)

-- A count, if something is left.
abbrev pub count_of : PlacesView → List ℕ → Reads (Option ℕ)
count_of places text = if is_empty text then Ok (None, text)
    else and_then (sum_of places Count text) some_count

-- Bytes that were found, and a text between quotes or one byte more: 256 at most.
abbrev pub with_piece : List ℕ → List ℕ → List ℕ → Reads (List ℕ)
with_piece found piece rest = if nat_le (length found + length piece) 256
    then Ok (found ++ piece, rest) else Err many

-- The next byte between quotes, if there is one, joins those that were found; and what comes then.
abbrev pub quoted_by : Option (ℕ × List ℕ) → List ℕ → List ℕ → (List ℕ → List ℕ → Reads (List ℕ))
    → Reads (List ℕ)
quoted_by None found text rest = Ok (found, after 1 text)
quoted_by (Some next) found text rest = and_then (with_piece found (next.0 ∷ []) next.1) rest

-- The bytes of a text behind its first quote, to the next one or to the end of the line; so many at
-- most. As many as there are bytes are enough.
unfoldable pub quoted_of : ℕ → List ℕ → List ℕ → Reads (List ℕ)
quoted_of zero found text = Ok (found, after 1 text)
quoted_of (suc n) found text
    = quoted_by (quoted_next text) found text (λ more behind. quoted_of n more behind)

unfoldable pub piece_of : PlacesView → List ℕ → List ℕ → Reads (List ℕ)
piece_of places found text =
    if is_next 34 text then quoted_of (length (drop 1 text)) found (drop 1 text)
    else and_then (sum_of places Byte text) (λ b rest. with_piece found (b ∷ []) rest)

-- Pieces to the end of a line, which a comma may separate; so many at most. Each has a byte at
-- least, but that there is none is seen by one more.
unfoldable pub pieces_of : ℕ → PlacesView → List ℕ → List ℕ → Reads (List ℕ)
pieces_of zero places found text = Ok (found, text)
pieces_of (suc n) places found text = and_then (piece_of places found text) (λ more rest.
    if is_empty (past (byte ",") rest) then Ok (more, past (byte ",") rest)
    else pieces_of n places more (past (byte ",") rest))

abbrev pub some_bytes : List ℕ → List ℕ → Reads (List ℕ)
some_bytes found rest = if is_empty found then Err (missing lacking.Text) else Ok (found, rest)

-- Bytes and texts: one byte at least.
unfoldable pub bytes_of : PlacesView → List ℕ → Reads (List ℕ)
bytes_of places text = and_then (pieces_of (length text + 1) places [] text) some_bytes
