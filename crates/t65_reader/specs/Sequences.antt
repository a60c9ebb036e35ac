-- Bytes in order: values, random bytes and strings, with commas between them. Source: mos65.
use Rattle.std.specs.Prelude.{ℕ, zero, suc, ◌+◌, nat_le, Bool, not, if◌then◌else◌, List, [], ◌∷◌, ◌++◌, length, drop, codes, Option, Some, None, Ok, Err}
use Rattle.std.specs.Str.{byte, bytes_eq}
use Rattle.lexer.specs.Front.{is_next}
use Rattle.model.specs.Names.{Definitions}
use Rattle.t65_values.specs.StringText.{Character, character_of}
use Rattle.t65_values.specs.ValueText.{Reads, after_word, and_then, fault_at, number_of, skip_blanks, value_of, word_of}
use Rattle.t65_values.specs.declared.expression.Atom.{Atom}
use Rattle.t65_values.specs.declared.expression.Atom.TheVariants.{Number, Random}
use Rattle.t65_values.specs.declared.expression.Value.{Value}
use Rattle.t65_values.specs.declared.fault.Base.TheVariants.{Decimal, Hex}
use Rattle.t65_values.specs.declared.fault.RowFaultKind.TheVariants.{AddressRange, OpenString}
use Rattle.t65_values.specs.declared.value.Letters.{Letters}

-- A value of one part.
abbrev pub just : Atom → Value
just atom = record { first = atom; second = None; third = None }

-- The value of each byte in order, behind those of others, and the text after them.
abbrev pub Sequence : Type 0
Sequence = Reads (List Value)

-- ---- strings

-- A byte joins those that were found.
abbrev pub with_character : List Value → ℕ → List ℕ → List Value × List ℕ
with_character found b rest = (found ++ just (Number b) ∷ [], rest)

-- The next character, if there is one, joins those that were found; and what comes then.
abbrev pub characters_by : Option Character → List Value → List ℕ
    → (List Value → List ℕ → List Value × List ℕ) → List Value × List ℕ
characters_by None found text rest = (found, text)
characters_by (Some read) found text rest = rest (found ++ just (Number read.0) ∷ []) read.1

-- The characters at the front of a text; so many at most. Each has a byte at least, so as many as
-- there are bytes are enough.
unfoldable pub characters_of : ℕ → List Value → List ℕ → List Value × List ℕ
characters_of zero found text = (found, text)
characters_of (suc n) found text
    = characters_by (character_of text) found text (λ more behind. characters_of n more behind)

-- A string ends with a `"`.
abbrev pub closed : List ℕ → List Value × List ℕ → Sequence
closed text read = if is_next 34 read.1 then Ok (read.0, skip_blanks (drop 1 read.1))
    else Err (fault_at OpenString text)

-- The bytes between two `"`.
unfoldable pub string_piece : List Value → List ℕ → Sequence
string_piece found text = closed text (characters_of (length (drop 1 text)) found (drop 1 text))

-- ---- pieces

abbrev pub one_value : List Value → Value → List ℕ → Sequence
one_value found value rest = Ok (found ++ value ∷ [], rest)

-- The random bytes of so many places in order.
abbrev pub random_values : ℕ → ℕ → List Value
random_values first zero = []
random_values first (suc n) = just (Random first) ∷ random_values (first + 1) n

-- So many values behind others end at the last place or before it.
abbrev pub has_room : ℕ → ℕ → ℕ → Bool
has_room start before count = nat_le (start + before + count) 65536

abbrev pub randoms : ℕ → List Value → List ℕ → ℕ → List ℕ → Sequence
randoms start found text count rest = if has_room start (length found) count
    then Ok (found ++ random_values (start + length found) count, rest)
    else Err (fault_at AddressRange text)

-- How many random bytes stand there: each is that of its place.
unfoldable pub random_piece : ℕ → List Value → List ℕ → Sequence
random_piece start found text = and_then (number_of Decimal text) (randoms start found text)

-- A string, random bytes, or a value of a byte.
unfoldable pub piece_of : Definitions → Letters → ℕ → List Value → List ℕ → Sequence
piece_of names letters start found text =
    if is_next 34 text then string_piece found text
    else if bytes_eq (word_of text) (codes "random") then random_piece start found (after_word text)
    else and_then (value_of names letters Hex text) (one_value found)

abbrev pub is_last : List ℕ → Bool
is_last text = not (is_next (byte ",") text)

-- Further pieces, each behind a comma; so many at most.
unfoldable pub pieces_after : ℕ → Definitions → Letters → ℕ → List Value → List ℕ → Sequence
pieces_after zero names letters start found text = Ok (found, text)
pieces_after (suc n) names letters start found text =
    if is_last text then Ok (found, text)
    else and_then (piece_of names letters start found (skip_blanks (drop 1 text)))
    (λ more rest. pieces_after n names letters start more rest)

-- Pieces with commas between them, one at least; the first byte stands in a place.
unfoldable pub sequence_of : Definitions → Letters → ℕ → List ℕ → Sequence
sequence_of names letters start text = and_then (piece_of names letters start [] text)
    (λ found rest. pieces_after (length rest) names letters start found rest)
