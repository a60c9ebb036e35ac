-- S-records: a type, how many bytes follow, an address, data and a checksum.
-- Source: Motorola, M68000 Family Programmer's Reference Manual, appendix C, S-record output format;
-- mos65 for the faults and for addresses of 16 bits.
use Rattle.std.specs.Prelude.{ℕ, ◌+◌, ◌-◌, ◌==◌, nat_lt, if◌then◌else◌, List, [], ◌∷◌, drop, length, slice_index, take, Option, None, Some, Result, Ok, Err}
use Rattle.std.specs.Str.{byte}
use Rattle.image_reader.specs.declared.fault.LineFault.{LineFault}
use Rattle.image_reader.specs.declared.fault.RecordFaultKind.TheVariants.{NoMark, ShortRecord, UnknownType, BadLength, BadCount}
use Rattle.image_reader.specs.declared.reading.Place.TheVariants.{Open, Counted, Ended}
use Rattle.image_reader.specs.declared.s_records.Role.{Role}
use Rattle.image_reader.specs.declared.s_records.Role.TheVariants.{Header, Data, Count, End}
use Rattle.image_reader.specs.Progress.{Progress, stored}
use Rattle.image_reader.specs.Records.{◌>>=◌, at, record_bytes, word_of}

-- What the records of a type are for, and how many bytes their address has.
abbrev pub kind_of : ℕ → Option (Role × ℕ)
kind_of c =
    if c == byte "0" then Some (Header, 2)
    else if c == byte "1" then Some (Data, 2)
    else if c == byte "2" then Some (Data, 3)
    else if c == byte "3" then Some (Data, 4)
    else if c == byte "5" then Some (Count, 2)
    else if c == byte "6" then Some (Count, 3)
    else if c == byte "7" then Some (End, 4)
    else if c == byte "8" then Some (End, 3)
    else if c == byte "9" then Some (End, 2)
    else None

-- The address, of two, three or four bytes.
abbrev pub address_of : ℕ → List ℕ → ℕ
address_of width bytes =
    if width == 2 then word_of (slice_index bytes 1) (slice_index bytes 2)
    else if width == 3
    then word_of (word_of (slice_index bytes 1) (slice_index bytes 2)) (slice_index bytes 3)
    else word_of (word_of (word_of (slice_index bytes 1) (slice_index bytes 2))
    (slice_index bytes 3)) (slice_index bytes 4)

-- The data, between the address and the checksum.
abbrev pub data_of : ℕ → List ℕ → List ℕ
data_of width bytes = take (slice_index bytes 0 - (width + 1)) (drop (1 + width) bytes)

-- A count record can say up to 16,777,215.
abbrev pub next_count : ℕ → ℕ
next_count n = if nat_lt n 16777216 then n + 1 else n

abbrev pub one_more : Progress → Progress
one_more s = record s { place = Open; count = next_count s.count }

-- S1, S2 and S3: data. S5 and S6: how many data records came before. S7, S8 and S9: the end, with
-- the address where the program starts. S0 says something of the text.
abbrev pub by_role : Role → ℕ → List ℕ → Progress → Result Progress LineFault
by_role Header address bytes s = Ok (record s { place = Open })
by_role Data address bytes s = stored 5 address bytes s >>= λ t. Ok (one_more t)
by_role Count address bytes s = if length bytes == 0
    then (if address == s.count then Ok (record s { place = Counted }) else Err (at BadCount 5))
    else Err (at BadLength 3)
by_role End address bytes s = if length bytes == 0 then Ok (record s { place = Ended })
    else Err (at BadLength 3)

-- What the bytes of a record do: at least an address and a checksum.
unfoldable pub after_s : Role → ℕ → Progress → List ℕ → Result Progress LineFault
after_s role width s bytes = if nat_lt (slice_index bytes 0) (width + 1)
    then Err (at BadLength 3)
    else by_role role (address_of width bytes) (data_of width bytes) s

abbrev pub s_digits : Progress → List ℕ → Option (Role × ℕ) → Result Progress LineFault
s_digits s digits None = Err (at UnknownType 2)
s_digits s digits (Some kind) = record_bytes 2 1 255 digits >>= after_s kind.0 kind.1 s

abbrev pub s_rest : Progress → List ℕ → Result Progress LineFault
s_rest s [] = Err (at ShortRecord 2)
s_rest s (c ∷ digits) = s_digits s digits (kind_of c)

-- What a line does: an empty one nothing. The bytes of a record sum to 255.
unfoldable pub s_line : Progress → List ℕ → Result Progress LineFault
s_line s [] = Ok s
s_line s (mark ∷ rest) = if mark == 83 then s_rest s rest else Err (at NoMark 1)
