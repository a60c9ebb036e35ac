-- How a text tells its form, and when bytes are no raw image. Source: mos65.
use Rattle.std.specs.Prelude.{ℕ, ◌==◌, ◌||◌, ◌&&◌, nat_le, nat_lt, length, Bool, not, true, false, if◌then◌else◌, List, [], ◌∷◌, drop, take, Result, Ok, Err}
use Rattle.std.specs.List.{list_all, prefix_len}
use Rattle.model.specs.Token.{is_digit}
use Rattle.image_reader.specs.declared.form.Form.{Form}
use Rattle.image_reader.specs.declared.form.Form.TheVariants.{Tape, Text, Raw, Prg}
use Rattle.image_files.specs.declared.form.OtherText.{OtherText}
use Rattle.image_files.specs.declared.form.OtherText.TheVariants as other
use Rattle.image_reader.specs.declared.form.TextForm.TheVariants.{Hex, SRecord}
use Rattle.model.specs.Digits.{is_hex_byte}
use Rattle.model.specs.Tape.{is_skipped}

-- A byte of a text: $20..$7E, a tab or a line end.
abbrev pub is_plain : ℕ → Bool
is_plain b = (nat_le 32 b && nat_le b 126) || (b == 9) || (b == 10) || (b == 13)

-- The bytes that tell what begins with no record: the first 64.
unfoldable pub front_bytes : List ℕ → List ℕ
front_bytes bytes = take 64 bytes

-- No record of a tape begins with such a byte.
abbrev pub is_no_record : ℕ → Bool
is_no_record b = not (b == 59)

-- What a text has before its first `;`, or all of it.
unfoldable pub before_record : List ℕ → List ℕ
before_record text = take (prefix_len is_no_record text) text

-- What it has from its first `;` on.
unfoldable pub from_record : List ℕ → List ℕ
from_record text = drop (prefix_len is_no_record text) text

-- Eight hex digits stand behind the first byte, as in each record.
abbrev pub has_digits : List ℕ → Bool
has_digits rest = if nat_lt (length rest) 9 then false else list_all is_hex_byte (take 8 (drop 1 rest))

-- What bytes look like that begin with no record. What the terminal of a KIM-1 showed has a record
-- of a tape at its first `;`.
abbrev pub other_of : List ℕ → OtherText
other_of bytes = if has_digits (from_record bytes) then other.Capture
    else if list_all is_plain (front_bytes bytes) then other.Plain else other.Bytes

-- `S` begins an S-record if a digit follows.
abbrev pub s_form : List ℕ → List ℕ → Result Form OtherText
s_form bytes [] = Err (other_of bytes)
s_form bytes (c ∷ rest) = if is_digit c then Ok (Text SRecord) else Err (other_of bytes)

-- The form by the first byte that a tape does not skip.
abbrev pub first_form : List ℕ → List ℕ → Result Form OtherText
first_form bytes [] = Err other.Nothing
first_form bytes (b ∷ rest) =
    if b == 59 then Ok Tape
    else if b == 58 then Ok (Text Hex)
    else if b == 83 then s_form bytes rest
    else Err (other_of bytes)

-- The form that the first record of some bytes tells: `;` a tape, `:` Intel HEX, `S` and a digit
-- S-records. Before it may stand what a tape skips.
unfoldable pub form_of : List ℕ → Result Form OtherText
form_of bytes = first_form bytes (drop (prefix_len is_skipped bytes) bytes)

-- ---- bytes that are given as raw ones

-- Eight hex digits stand behind the first byte that a tape does not skip.
unfoldable pub begins_record : List ℕ → Bool
begins_record bytes = has_digits (drop (prefix_len is_skipped bytes) bytes)

-- What such bytes look like, if they begin as a record of a form.
abbrev pub record_of : Form → OtherText
record_of Tape = other.Tape
record_of (Text Hex) = other.Hex
record_of (Text SRecord) = other.SRecords
record_of (Raw address) = other.Bytes
record_of Prg = other.Bytes

-- A form without records is that of bytes that begin with none. Where they do, both readings fit, and
-- neither is taken.
abbrev pub alone : Form → Bool → Result Form OtherText → Result Form OtherText
alone form true (Ok told) = Err (record_of told)
alone form true (Err like) = Ok form
alone form false told = Ok form
