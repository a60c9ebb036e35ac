-- The bytes of a record of Intel HEX or of S-records.
-- Source: Intel, Hexadecimal Object File Format Specification, revision A, 1988; Motorola, M68000
-- Family Programmer's Reference Manual, appendix C, S-record output format. mos65 for the faults.
use Rattle.std.specs.Prelude.{ℕ, ◌+◌, ◌-◌, ◌*◌, ◌%◌, ◌==◌, nat_lt, if◌then◌else◌, List, [], ◌∷◌, length, sum, Result, Ok, Err}
use Rattle.std.specs.List.{prefix_len}
use Rattle.model.specs.Digits.{digit_value, is_hex_byte}
use Rattle.model.specs.Tape.{bytes_of_digits}
use Rattle.image_reader.specs.declared.fault.LineFault.{LineFault}
use Rattle.image_reader.specs.declared.fault.RecordFaultKind.{RecordFaultKind}
use Rattle.image_reader.specs.declared.fault.RecordFaultKind.TheVariants.{BadHex, ShortRecord, LongRecord, BadChecksum}

infixl 10 ◌>>=◌
abbrev pub ◌>>=◌ : {A B E : Type 0} → Result A E → (A → Result B E) → Result B E
(Ok x) >>= f = f x
(Err e) >>= f = Err e

-- A fault in a column of a line.
abbrev pub at : RecordFaultKind → ℕ → LineFault
at kind column = record { kind = kind; column = column }

-- How many digits a record has whose first two digits say how many bytes follow them, and `extra`
-- more that this number does not count.
abbrev pub wanted : ℕ → List ℕ → ℕ
wanted extra [] = 2
wanted extra (d ∷ []) = 2
wanted extra (high ∷ low ∷ digits) = 2 * (extra + (digit_value high * 16 + digit_value low))

-- A record stops at a byte that is no digit, or at the end of its line.
abbrev pub stop_of : ℕ → List ℕ → RecordFaultKind
stop_of count digits = if count == length digits then ShortRecord else BadHex

-- The bytes that the digits of a record write, which stand behind so many bytes of their line.
unfoldable pub record_digits : ℕ → ℕ → List ℕ → Result (List ℕ) LineFault
record_digits front extra digits =
    if nat_lt (prefix_len is_hex_byte digits) (wanted extra digits)
    then Err (at (stop_of (prefix_len is_hex_byte digits) digits)
    (front + prefix_len is_hex_byte digits + 1))
    else if nat_lt (wanted extra digits) (length digits)
    then Err (at LongRecord (front + wanted extra digits + 1))
    else Ok (bytes_of_digits digits)

-- The last byte is the checksum: with it the bytes have this sum, modulo 256.
abbrev pub with_total : ℕ → ℕ → List ℕ → Result (List ℕ) LineFault
with_total column total bytes = if sum bytes % 256 == total then Ok bytes
    else Err (at BadChecksum column)

-- The same with a right checksum.
unfoldable pub record_bytes : ℕ → ℕ → ℕ → List ℕ → Result (List ℕ) LineFault
record_bytes front extra total digits
    = record_digits front extra digits >>= with_total (front + length digits - 1) total

-- Two bytes as a number, the high one first.
abbrev pub word_of : ℕ → ℕ → ℕ
word_of high low = high * 256 + low
