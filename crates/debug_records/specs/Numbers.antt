-- The values of fields: numbers, numbers with `+` between them, and texts. A number is decimal, or
-- hexadecimal behind `0x`. Sources: those of Fields.antt; mos65 for the largest number and for the
-- faults.
use Rattle.std.specs.Prelude.{ℕ, zero, suc, ◌+◌, ◌-◌, ◌^◌, ◌==◌, nat_lt, ℤ, pos, neg_ℤ, Bool, true, false, if◌then◌else◌, List, [], ◌∷◌, ◌++◌, codes, length, take, drop, position, Option, Some, None, unwrap_or, Result, Ok, Err}
use Rattle.std.specs.List.{starts_with}
use Rattle.std.specs.Option.{option_and_then}
use Rattle.std.specs.Str.{byte}
use Rattle.model.specs.Digits.{decimal_number, hex_number}
use Rattle.debug_records.specs.Faults.{◌>>=◌, fault_at_end, fault_before}
use Rattle.debug_records.specs.Fields.{Field, field_in, is_next}
use Rattle.debug_records.specs.declared.fault.DebugFaultKind.TheVariants.{Missing, NoNumber, NoText}
use Rattle.debug_records.specs.declared.fault.LineFault.{LineFault}
use Rattle.debug_records.specs.declared.numbers.Placed.{Placed}

-- No number is larger than 4,294,967,295.
abbrev pub not_large : Option ℕ → Option ℕ
not_large None = None
not_large (Some number) = if nat_lt number (2 ^ 32) then Some number else None

abbrev pub is_hex : List ℕ → Bool
is_hex text = starts_with (λ a b. a == b) text (codes "0x")

-- The number of some digits, of which there is one at least.
abbrev pub digits_number : (List ℕ → Option ℕ) → List ℕ → Option ℕ
digits_number number digits = if length digits == 0 then None else not_large (number digits)

unfoldable pub number_of : List ℕ → Option ℕ
number_of text = if is_hex text then digits_number hex_number (drop 2 text)
    else digits_number decimal_number text

-- ---- the number of a field, with how many bytes of the line are left where it begins

abbrev pub placed_if : ℕ → Option ℕ → Result Placed LineFault
placed_if left None = Err (fault_before NoNumber left)
placed_if left (Some number) = Ok (record { number = number; left = left })

abbrev pub placed_value : Field → Result Placed LineFault
placed_value field = if field.is_text then Err (fault_before NoNumber field.left)
    else placed_if field.left (number_of field.value)

abbrev pub number_value : Field → Result ℕ LineFault
number_value field = placed_value field >>= λ found. Ok found.number

-- A field that a record must have.
abbrev pub required : Option Field → Result Field LineFault
required None = Err (fault_at_end Missing)
required (Some field) = Ok field

abbrev pub placed_in : List Field → List ℕ → Result Placed LineFault
placed_in fields name = required (field_in fields name) >>= placed_value

abbrev pub number_in : List Field → List ℕ → Result ℕ LineFault
number_in fields name = required (field_in fields name) >>= number_value

-- A field that a record may have.
abbrev pub number_if : Option Field → ℕ → Result ℕ LineFault
number_if None other = Ok other
number_if (Some field) other = number_value field

abbrev pub number_or : List Field → List ℕ → ℕ → Result ℕ LineFault
number_or fields name other = number_if (field_in fields name) other

-- A number that a record may have, with its place.
abbrev pub placed_by : Option Field → Result (Option Placed) LineFault
placed_by None = Ok None
placed_by (Some field) = placed_value field >>= λ found. Ok (Some found)

abbrev pub placed_or_none : List Field → List ℕ → Result (Option Placed) LineFault
placed_or_none fields name = placed_by (field_in fields name)

-- ---- a number that may have `-` before it; none is further from 0 than 2,147,483,647

abbrev pub distance_of : List ℕ → Option ℕ
distance_of text
    = option_and_then (λ n. if nat_lt n (2 ^ 31) then Some n else None) (number_of text)

abbrev pub signed_by : Bool → Option ℕ → Option ℤ
signed_by minus None = None
signed_by minus (Some n) = Some (if minus then neg_ℤ (pos n) else pos n)

abbrev pub signed_number : List ℕ → Option ℤ
signed_number text = if is_next (byte "-") text then signed_by true (distance_of (drop 1 text))
    else signed_by false (distance_of text)

abbrev pub signed_if : ℕ → Option ℤ → Result ℤ LineFault
signed_if left None = Err (fault_before NoNumber left)
signed_if left (Some number) = Ok number

abbrev pub signed_value : Field → Result ℤ LineFault
signed_value field = if field.is_text then Err (fault_before NoNumber field.left)
    else signed_if field.left (signed_number field.value)

-- A record without the field has 0.
abbrev pub signed_by_field : Option Field → Result ℤ LineFault
signed_by_field None = Ok (pos 0)
signed_by_field (Some field) = signed_value field

abbrev pub signed_or_zero : List Field → List ℕ → Result ℤ LineFault
signed_or_zero fields name = signed_by_field (field_in fields name)

-- ---- numbers with `+` between them

-- How many bytes come before the first `+`.
abbrev pub plus_in : List ℕ → ℕ
plus_in text = unwrap_or (position (λ b. b == byte "+") text) (length text)

-- The number at the front of a text, behind those that were read. So many bytes of the line are left
-- where the text begins.
unfoldable pub next_number : List Placed → ℕ → List ℕ → Result (List Placed) LineFault
next_number found left text =
    placed_if left (number_of (take (plus_in text) text)) >>= λ number.
    Ok (found ++ number ∷ [])

-- So many numbers at most. Each has a byte at least, so as many as there are bytes are enough.
unfoldable pub numbers_within : ℕ → List Placed → ℕ → List ℕ → Result (List Placed) LineFault
numbers_within zero found left text = Err (fault_before NoNumber left)
numbers_within (suc n) found left text =
    next_number found left text >>= λ more.
    if plus_in text == length text then Ok more
    else numbers_within n more (left - (plus_in text + 1)) (drop (plus_in text + 1) text)

abbrev pub numbers_value : Field → Result (List Placed) LineFault
numbers_value field = if field.is_text then Err (fault_before NoNumber field.left)
    else numbers_within (length field.value) [] field.left field.value

abbrev pub numbers_if : Option Field → Result (List Placed) LineFault
numbers_if None = Ok []
numbers_if (Some field) = numbers_value field

-- A record without the field has no numbers.
abbrev pub numbers_in : List Field → List ℕ → Result (List Placed) LineFault
numbers_in fields name = numbers_if (field_in fields name)

-- ---- texts

abbrev pub text_value : Field → Result (List ℕ) LineFault
text_value field = if field.is_text then Ok field.value
    else Err (fault_before NoText field.left)

abbrev pub text_in : List Field → List ℕ → Result (List ℕ) LineFault
text_in fields name = required (field_in fields name) >>= text_value
