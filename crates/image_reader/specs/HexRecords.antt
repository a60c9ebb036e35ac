-- The records of Intel HEX: how many data bytes, a load offset, a type, the data and a checksum.
-- Source: Intel, Hexadecimal Object File Format Specification, revision A, 1988; mos65 for the faults
-- and for addresses of 16 bits.
use Rattle.std.specs.Prelude.{ℕ, ◌+◌, ◌*◌, ◌==◌, if◌then◌else◌, List, [], ◌∷◌, drop, slice_index, take, Result, Ok, Err}
use Rattle.image_reader.specs.declared.fault.LineFault.{LineFault}
use Rattle.image_reader.specs.declared.fault.RecordFaultKind.TheVariants.{NoMark, UnknownType, BadLength}
use Rattle.image_reader.specs.declared.reading.Place.TheVariants.{Ended}
use Rattle.image_reader.specs.Progress.{Progress, stored}
use Rattle.image_reader.specs.Records.{◌>>=◌, at, record_bytes, word_of}

-- How many data bytes a record has.
abbrev pub data_len : List ℕ → ℕ
data_len bytes = slice_index bytes 0

-- Type 00: data. The offset counts from the base.
abbrev pub hex_data : List ℕ → Progress → Result Progress LineFault
hex_data bytes s = stored 4 (s.base + word_of (slice_index bytes 1) (slice_index bytes 2))
    (take (data_len bytes) (drop 4 bytes)) s

-- Type 01: the end, with no data.
abbrev pub hex_end : List ℕ → Progress → Result Progress LineFault
hex_end bytes s = if data_len bytes == 0 then Ok (record s { place = Ended })
    else Err (at BadLength 2)

-- Types 02 and 04: the base, in units of 16 or of 65,536 bytes, as two bytes of data.
abbrev pub hex_base : ℕ → List ℕ → Progress → Result Progress LineFault
hex_base unit bytes s = if data_len bytes == 2
    then Ok (record s { base = unit * word_of (slice_index bytes 4) (slice_index bytes 5) })
    else Err (at BadLength 2)

-- Types 03 and 05: where the program starts, as four bytes. It changes no image.
abbrev pub hex_start : List ℕ → Progress → Result Progress LineFault
hex_start bytes s = if data_len bytes == 4 then Ok s else Err (at BadLength 2)

-- What the bytes of a record do, by its type.
unfoldable pub after_hex : Progress → List ℕ → Result Progress LineFault
after_hex s bytes =
    if slice_index bytes 3 == 0 then hex_data bytes s
    else if slice_index bytes 3 == 1 then hex_end bytes s
    else if slice_index bytes 3 == 2 then hex_base 16 bytes s
    else if slice_index bytes 3 == 3 then hex_start bytes s
    else if slice_index bytes 3 == 4 then hex_base 65536 bytes s
    else if slice_index bytes 3 == 5 then hex_start bytes s
    else Err (at UnknownType 8)

-- What a line does: an empty one nothing. The bytes of a record sum to 0.
unfoldable pub hex_line : Progress → List ℕ → Result Progress LineFault
hex_line s [] = Ok s
hex_line s (mark ∷ digits) = if mark == 58 then record_bytes 1 5 0 digits >>= after_hex s
    else Err (at NoMark 1)
