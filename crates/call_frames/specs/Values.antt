-- What a local holds, as it is written. No type of C is known, so a number of one, two or four bytes
-- is written as one that may be signed, and any other as bytes. Source: mos65.
use Rattle.std.specs.Prelude.{ℕ, zero, suc, ◌+◌, ◌-◌, ◌*◌, ◌%◌, ◌==◌, ◌||◌, min, nat_lt, Bool, if◌then◌else◌, List, [], ◌∷◌, ◌++◌, codes, decimal, slice_index, Option, None, Some}
use Rattle.std.specs.List.{flat_map}
use Rattle.model.specs.Text.{hex_address, hex_byte}
use Rattle.c_frames.specs.declared.locals.Local.{Local}
use Rattle.call_frames.specs.declared.values.TheConstants.{AS_BYTES, FURTHER, OR, SHOWN, UNKNOWN_SIZE, VALUE}

-- ---- bytes

-- So many bytes from an address on. $0000 comes after $FFFF.
abbrev pub bytes_of : List ℕ → ℕ → ℕ → List ℕ
bytes_of memory address zero = []
bytes_of memory address (suc n)
    = slice_index memory address ∷ bytes_of memory ((address + 1) % 65536) n

abbrev pub byte_behind_blank : ℕ → List ℕ
byte_behind_blank byte = codes " " ++ hex_byte byte

-- The first eight of so many bytes.
abbrev pub bytes_text : List ℕ → ℕ → ℕ → List ℕ
bytes_text memory address size
    = flat_map byte_behind_blank (bytes_of memory address (min size SHOWN))
    ++ (if nat_lt SHOWN size then FURTHER.now else [])

-- ---- numbers

abbrev pub is_number : ℕ → Bool
is_number size = size == 1 || (size == 2 || size == 4)

abbrev pub word_in : List ℕ → ℕ → ℕ
word_in memory address
    = slice_index memory address + 256 * slice_index memory ((address + 1) % 65536)

-- The number of one, two or four bytes at an address, the low byte first.
abbrev pub number_in : List ℕ → ℕ → ℕ → ℕ
number_in memory address size = if size == 1 then slice_index memory address
    else if size == 2 then word_in memory address
    else word_in memory address + 65536 * word_in memory ((address + 2) % 65536)

-- The lowest number of so many bytes that is negative if it is signed.
abbrev pub half_of : ℕ → ℕ
half_of size = if size == 1 then 128 else if size == 2 then 32768 else 2147483648

-- A number, and before it the negative one that it is if it is signed.
abbrev pub signed_text : ℕ → ℕ → List ℕ
signed_text half number = if nat_lt number half then decimal number
    else codes "-" ++ decimal (half + half - number) ++ OR.now ++ decimal number

abbrev pub hex_number : List ℕ → ℕ → ℕ → List ℕ
hex_number memory address size = if size == 1 then hex_byte (slice_index memory address)
    else if size == 2 then hex_address (word_in memory address)
    else hex_address (word_in memory ((address + 2) % 65536)) ++ hex_address (word_in memory address)

-- `88 = $0058`, `-31360 or 34176 = $8580`.
abbrev pub number_text : List ℕ → ℕ → ℕ → List ℕ
number_text memory address size = signed_text (half_of size) (number_in memory address size)
    ++ VALUE.now ++ hex_number memory address size

-- ---- locals

abbrev pub sized_text : List ℕ → ℕ → ℕ → List ℕ
sized_text memory address size = if is_number size then number_text memory address size
    else AS_BYTES.now ++ bytes_text memory address size

-- What a local holds.
abbrev pub value_by : List ℕ → ℕ → Option ℕ → List ℕ
value_by memory address None = UNKNOWN_SIZE.now
value_by memory address (Some size) = sized_text memory address size

abbrev pub value_text : List ℕ → Local → List ℕ
value_text memory local = value_by memory local.address local.size
