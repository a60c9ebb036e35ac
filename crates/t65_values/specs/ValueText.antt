-- What stands at the front of a text of a test file: words, signs, numbers, addresses and values.
-- Source: mos65.
use Rattle.std.specs.Prelude.{ℕ, ℤ, pos, negsuc, ◌+◌, ◌-◌, ◌*◌, ◌==◌, ◌/◌, ◌%◌, ◌&&◌, ◌||◌, nat_le, nat_lt, Bool, true, false, if◌then◌else◌, List, [], ◌∷◌, length, take, drop, codes, Option, Some, None, Result, Ok, Err}
use Rattle.std.specs.Str.{byte, bytes_eq}
use Rattle.std.specs.List.{list_all, prefix_len}
use Rattle.lexer.specs.Front.{is_next}
use Rattle.model.specs.Digits.{hex_number, decimal_number, is_hex_byte}
use Rattle.model.specs.Names.{Definitions, number_in}
use Rattle.model.specs.Token.{is_blank, is_digit, is_word_byte, begins}
use Rattle.t65_values.specs.declared.fault.RowFault.{RowFault}
use Rattle.t65_values.specs.declared.fault.RowFaultKind.{RowFaultKind}
use Rattle.t65_values.specs.declared.fault.RowFaultKind.TheVariants.{Syntax, NoNumber, NoAddress, NoEquals, NoColon, NoBracket, LongNumber, UndefinedName, AddressRange}
use Rattle.t65_values.specs.declared.fault.Base.{Base}
use Rattle.t65_values.specs.declared.fault.Base.TheVariants.{Hex, Decimal}
use Rattle.t65_values.specs.declared.value.Letters.{Letters}
use Rattle.t65_values.specs.declared.expression.Atom.{Atom}
use Rattle.t65_values.specs.declared.expression.Atom.TheVariants.{Number, First, Second, Third, Fourth, Byte, Word}
use Rattle.t65_values.specs.declared.expression.Operation.{Operation}
use Rattle.t65_values.specs.declared.expression.Operation.TheVariants.{Add, Subtract, Multiply, Divide, Remainder, And, Or, ExclusiveOr}
use Rattle.t65_values.specs.declared.expression.Operator.{Operator}
use Rattle.t65_values.specs.declared.expression.Value.{Value}

-- What was read and the text after it, or why it is nothing.
abbrev pub Reads : Type 0 → Type 0
Reads X = Result (X × List ℕ) RowFault

abbrev pub fault_at : RowFaultKind → List ℕ → RowFault
fault_at kind text = record { left = length text; kind = kind }

-- What is read next, from the text after what was read.
abbrev pub and_then : {X Y : Type 0} → Reads X → (X → List ℕ → Reads Y) → Reads Y
and_then (Ok read) next = next read.0 read.1
and_then (Err fault) next = Err fault

-- ---- words, signs and numbers; blanks may come after each

abbrev pub skip_blanks : List ℕ → List ℕ
skip_blanks text = drop (prefix_len is_blank text) text

-- The letters, digits and `_` at the front, and the text after them.
abbrev pub word_of : List ℕ → List ℕ
word_of text = take (prefix_len is_word_byte text) text

abbrev pub after_word : List ℕ → List ℕ
after_word text = skip_blanks (drop (prefix_len is_word_byte text) text)

-- A line ends with its last byte, or where `;` begins a comment.
abbrev pub ends : List ℕ → Bool
ends [] = true
ends (b ∷ text) = b == byte ";"

-- The fault where a sign has to come next.
abbrev pub lack_of : ℕ → RowFaultKind
lack_of sign =
    if sign == byte "=" then NoEquals
    else if sign == byte ":" then NoColon
    else if sign == byte "]" then NoBracket
    else Syntax

-- A sign that has to come next: the text after it.
abbrev pub after_sign : ℕ → List ℕ → Result (List ℕ) RowFault
after_sign sign text = if is_next sign text then Ok (skip_blanks (drop 1 text))
    else Err (fault_at (lack_of sign) text)

-- One to four hex digits, or one to seven decimal ones.
abbrev pub up_to : ℕ → List ℕ → Option ℕ → Option ℕ
up_to most digits number = if (length digits == 0) || nat_lt most (length digits) then None
    else number

abbrev pub number_in_word : Base → List ℕ → Option ℕ
number_in_word Hex digits = up_to 4 digits (hex_number digits)
number_in_word Decimal digits = up_to 7 digits (decimal_number digits)

-- Two parts of a number, the upper one before four hex digits.
abbrev pub joined_halves : Option ℕ → Option ℕ → Option ℕ
joined_halves (Some upper) (Some lower) = Some (65536 * upper + lower)
joined_halves (Some upper) None = None
joined_halves None lower = None

abbrev pub wide_halves : ℕ → List ℕ → Option ℕ
wide_halves upper word
    = joined_halves (hex_number (take upper word)) (hex_number (drop upper word))

-- The number of five to eight hex digits.
abbrev pub wide_number : List ℕ → Option ℕ
wide_number word = if nat_lt 4 (length word) && nat_le (length word) 8
    then wide_halves (length word - 4) word else None

-- Whether a word has digits alone, and more than four hex ones, or more than seven decimal ones.
abbrev pub is_long : Base → List ℕ → Bool
is_long Hex word = nat_lt 4 (length word) && list_all is_hex_byte word
is_long Decimal word = nat_lt 7 (length word) && list_all is_digit word

-- Why a word is no number.
abbrev pub number_fault : Base → List ℕ → RowFaultKind
number_fault base word = if is_long base word then LongNumber base else NoNumber base

-- The number of the word at the front, if it is one.
abbrev pub number_or_fault : Base → List ℕ → Option ℕ → Reads ℕ
number_or_fault base text (Some number) = Ok (number, after_word text)
number_or_fault base text None = Err (fault_at (number_fault base (word_of text)) text)

-- A number. `$` before it says that its digits are hex.
unfoldable pub number_of : Base → List ℕ → Reads ℕ
number_of base text =
    if is_next (byte "$") text
    then number_or_fault Hex (drop 1 text) (number_in_word Hex (word_of (drop 1 text)))
    else number_or_fault base text (number_in_word base (word_of text))

-- ---- addresses

abbrev pub hex_or_undefined : List ℕ → List ℕ → Option ℕ → Reads ℕ
hex_or_undefined text after (Some number) = Ok (number, after)
hex_or_undefined text after None = Err (fault_at UndefinedName text)

-- Four hex digits are an address where the source defines no such name.
unfoldable pub unnamed : List ℕ → Reads ℕ
unnamed text = if length (word_of text) == 4
    then hex_or_undefined text (after_word text) (number_in_word Hex (word_of text))
    else Err (fault_at UndefinedName text)

abbrev pub address_or_fault : List ℕ → List ℕ → Option ℤ → Reads ℕ
address_or_fault text after None = unnamed text
address_or_fault text after (Some (pos n)) = if nat_le n 65535 then Ok (n, after)
    else Err (fault_at AddressRange text)
address_or_fault text after (Some (negsuc n)) = Err (fault_at AddressRange text)

-- The address of a name.
abbrev pub name_of : Definitions → List ℕ → Reads ℕ
name_of names text = if length (word_of text) == 0 then Err (fault_at NoAddress text)
    else address_or_fault text (after_word text) (number_in names (word_of text))

-- Hex digits that begin with a digit or with `$`, a name, or four hex digits that are no name.
unfoldable pub base_address_of : Definitions → List ℕ → Reads ℕ
base_address_of names text = if begins is_digit text || is_next (byte "$") text
    then number_of Hex text else name_of names text

abbrev pub sum_or_fault : List ℕ → ℕ → ℕ → List ℕ → Reads ℕ
sum_or_fault text address offset after = if nat_le (address + offset) 65535
    then Ok (address + offset, after) else Err (fault_at AddressRange text)

-- An address, and a hex number to be added after `+`.
unfoldable pub address_of : Definitions → List ℕ → Reads ℕ
address_of names text = and_then (base_address_of names text) (λ address rest.
    if is_next (byte "+") rest
    then and_then (number_of Hex (skip_blanks (drop 1 rest))) (sum_or_fault text address)
    else Ok (address, rest))

-- ---- values

-- What a word is by itself: the value of the range of its letter.
abbrev pub is_letter_of : Option ℕ → List ℕ → Bool
is_letter_of None word = false
is_letter_of (Some letter) word = bytes_eq word (letter ∷ [])

unfoldable pub letter_in : Letters → List ℕ → Option Atom
letter_in letters word =
    if is_letter_of letters.first word then Some First
    else if is_letter_of letters.second word then Some Second
    else if is_letter_of letters.third word then Some Third
    else if is_letter_of letters.fourth word then Some Fourth
    else None

abbrev pub as_number : ℕ → List ℕ → Reads Atom
as_number number rest = Ok (Number number, rest)

abbrev pub low_byte : ℕ → List ℕ → Reads Atom
low_byte number rest = Ok (Number (number % 256), rest)

abbrev pub high_byte : ℕ → List ℕ → Reads Atom
high_byte number rest = Ok (Number (number / 256), rest)

abbrev pub letter_or_number : Base → List ℕ → Option Atom → Reads Atom
letter_or_number base text (Some atom) = Ok (atom, after_word text)
letter_or_number base text None = and_then (number_of base text) as_number

-- Whether `.w` comes next.
abbrev pub is_word_next : List ℕ → Bool
is_word_next text = is_next (byte ".") text
    && bytes_eq (word_of (skip_blanks (drop 1 text))) (codes "w")

-- The byte of memory at an address, or where `.w` comes next the two bytes from there on.
abbrev pub in_memory : ℕ → List ℕ → Atom × List ℕ
in_memory address text = if is_word_next text
    then (Word address, after_word (skip_blanks (drop 1 text))) else (Byte address, text)

abbrev pub memory_by : ℕ → Result (List ℕ) RowFault → Reads Atom
memory_by address (Ok rest) = Ok (in_memory address rest)
memory_by address (Err fault) = Err fault

-- What stands after `[`: an address, `]`, and `.w` for two bytes.
unfoldable pub memory_atom : Definitions → List ℕ → Reads Atom
memory_atom names text = and_then (address_of names text) (λ address rest.
    memory_by address (after_sign (byte "]") rest))

-- A number, a letter, one byte of an address, the low one after `<`, the high one after `>`, or what
-- is in memory.
unfoldable pub atom_of : Definitions → Letters → Base → List ℕ → Reads Atom
atom_of names letters base text =
    if is_next (byte "[") text then memory_atom names (skip_blanks (drop 1 text))
    else if is_next (byte "<") text then and_then (address_of names (skip_blanks (drop 1 text))) low_byte
    else if is_next (byte ">") text
    then and_then (address_of names (skip_blanks (drop 1 text))) high_byte
    else letter_or_number base text (letter_in letters (word_of text))

-- The operation of a sign.
abbrev pub operation_of : ℕ → Option Operation
operation_of sign =
    if sign == byte "+" then Some Add
    else if sign == byte "-" then Some Subtract
    else if sign == byte "*" then Some Multiply
    else if sign == byte "/" then Some Divide
    else if sign == byte "%" then Some Remainder
    else if sign == byte "&" then Some And
    else if sign == byte "|" then Some Or
    else if sign == byte "^" then Some ExclusiveOr
    else None

-- The operation that comes next. `->` is none.
unfoldable pub operation_at : List ℕ → Option Operation
operation_at [] = None
operation_at (sign ∷ text) = if (sign == byte "-") && is_next (byte ">") text then None
    else operation_of sign

-- What is multiplied or divided by is a count, and decimal.
abbrev pub base_after : Operation → Base → Base
base_after Multiply base = Decimal
base_after Divide base = Decimal
base_after Remainder base = Decimal
base_after operation base = base

abbrev pub as_operator : Operation → Atom → List ℕ → Reads (Option Operator)
as_operator operation right rest = Ok (Some (record { operation = operation; right = right }), rest)

abbrev pub operator_by : Definitions → Letters → Base → List ℕ → Option Operation
    → Reads (Option Operator)
operator_by names letters base text None = Ok (None, text)
operator_by names letters base text (Some operation) =
    and_then (atom_of names letters (base_after operation base) (skip_blanks (drop 1 text)))
    (as_operator operation)

-- An operation and its right side, if an operation comes next.
unfoldable pub operator_of : Definitions → Letters → Base → List ℕ → Reads (Option Operator)
operator_of names letters base text = operator_by names letters base text (operation_at text)

-- A value of up to three parts.
unfoldable pub value_of : Definitions → Letters → Base → List ℕ → Reads Value
value_of names letters base text =
    and_then (atom_of names letters base text) (λ first rest.
    and_then (operator_of names letters base rest) (λ second rest.
    and_then (operator_of names letters base rest) (λ third rest.
    Ok (record { first = first; second = second; third = third }, rest))))
