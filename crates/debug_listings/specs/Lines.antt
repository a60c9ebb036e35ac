-- What a line of a listing of 64tass says. Its columns have tabs between them: the number of a line,
-- and `:` and the number of its file, where that is another one than before; `.` or, of data, `>`, and
-- the address where bytes are loaded; if some bytes of the listing run elsewhere, a column of their
-- addresses; and the bytes. A head says from where on a file is read. Sources: the manual of 64tass (`--list`, `--line-numbers`)
-- and listings of its version 1.58; mos65 for the faults.
use Rattle.std.specs.Prelude.{ℕ, ◌+◌, ◌/◌, ◌%◌, ◌==◌, ◌&&◌, ◌||◌, nat_le, Bool, true, false, if◌then◌else◌, List, [], ◌∷◌, codes, length, take, drop, position, Option, Some, None, Result, Ok, Err}
use Rattle.std.specs.List.{starts_with}
use Rattle.std.specs.Str.{byte}
use Rattle.model.specs.Digits.{decimal_number, hex_number}
use Rattle.model.specs.Token.{is_hex_byte}
use Rattle.debug_listings.specs.declared.line.Bytes.{Bytes}
use Rattle.debug_listings.specs.declared.line.Numbers.{Numbers}
use Rattle.debug_listings.specs.declared.line.Said.{Said as HeldSaid}
use Rattle.debug_listings.specs.declared.line.Said.TheVariants as held
use Rattle.debug_records.specs.Faults.{◌>>=◌, fault_at}
use Rattle.debug_records.specs.Numbers.{digits_number}
use Rattle.debug_records.specs.declared.fault.DebugFaultKind.TheVariants.{NoBytes, NoHead, NoNumber}
use Rattle.debug_records.specs.declared.fault.LineFault.{LineFault}

-- A line says nothing of lines; a file of a number is read from here on; it is a line of a source, with
-- its bytes, if it has some; or it stands for so many bytes that repeat those of the row before it.
pub data Said : Type 0 where
  nothing : Said
  head : ℕ → List ℕ → Said
  row : Numbers → Option Bytes → Said
  repeated : ℕ → Said

abbrev pub said_view : HeldSaid → Said
said_view held.Nothing = nothing
said_view (held.Head file name) = head file name.now
said_view (held.Row numbers bytes) = row numbers bytes
said_view (held.Repeated count) = repeated count

abbrev pub begins : List ℕ → List ℕ → Bool
begins text front = starts_with (λ a b. a == b) text front

-- ---- columns

-- What stands before the first sign of a text, and what stands behind it.
abbrev pub cut_at : List ℕ → Option ℕ → List ℕ × List ℕ
cut_at text None = (text, [])
cut_at text (Some at) = (take at text, drop (at + 1) text)

abbrev pub cut : ℕ → List ℕ → List ℕ × List ℕ
cut sign text = cut_at text (position (λ b. b == sign) text)

abbrev pub decimal_in : List ℕ → Option ℕ
decimal_in digits = digits_number decimal_number digits

abbrev pub hex_in : List ℕ → Option ℕ
hex_in digits = digits_number hex_number digits

-- ---- the first column: a line, and its file

abbrev pub number_or_fault : List ℕ → Option ℕ → Result (Option ℕ) LineFault
number_or_fault line None = Err (fault_at NoNumber line)
number_or_fault line (Some number) = Ok (Some number)

abbrev pub number_at : List ℕ → List ℕ → Result (Option ℕ) LineFault
number_at column line = if length column == 0 then Ok None
    else number_or_fault line (decimal_in column)

unfoldable pub numbers_of : List ℕ → List ℕ → Result Numbers LineFault
numbers_of column line =
    number_at (cut (byte ":") column).0 line >>= λ number.
    number_at (cut (byte ":") column).1 line >>= λ file.
    Ok (record { line = number; file = file })

-- ---- addresses, up to FFFF

abbrev pub address_or_fault : List ℕ → Option ℕ → Result ℕ LineFault
address_or_fault text None = Err (fault_at NoNumber text)
address_or_fault text (Some address) = if nat_le address 65535 then Ok address
    else Err (fault_at NoNumber text)

abbrev pub address_in : List ℕ → List ℕ → Result ℕ LineFault
address_in digits text = address_or_fault text (hex_in digits)

-- Bytes run where they are loaded, if the column has no other address.
abbrev pub run_address : ℕ → List ℕ → List ℕ → Result ℕ LineFault
run_address loaded column text = if length column == 0 then Ok loaded else address_in column text

-- ---- bytes: up to 16 pairs of hex digits, with a blank between them

abbrev pub is_byte_sign : ℕ → ℕ → Bool
is_byte_sign place b = if place == 2 then b == byte " " else is_hex_byte b

abbrev pub are_bytes : ℕ → List ℕ → Bool
are_bytes place [] = place == 2
are_bytes place (b ∷ column) = if is_byte_sign place b then are_bytes ((place + 1) % 3) column
    else false

abbrev pub count_in : List ℕ → List ℕ → Result ℕ LineFault
count_in column text = if length column == 0 then Ok 0
    else if nat_le (length column) 47 && are_bytes 0 column then Ok ((length column + 1) / 3)
    else Err (fault_at NoBytes text)

-- ---- a row

-- What stands behind the next tab.
abbrev pub behind_tab : List ℕ → List ℕ
behind_tab text = (cut 9 text).1

abbrev pub column : List ℕ → List ℕ
column text = (cut 9 text).0

-- The column of addresses where bytes run, if there is one, and what stands behind it.
abbrev pub run_column : Bool → List ℕ → List ℕ × List ℕ
run_column true text = cut 9 text
run_column false text = ([], text)

unfoldable pub bytes_in : Bool → List ℕ → Result Bytes LineFault
bytes_in has_run text =
    let behind = behind_tab (drop 1 text) in
    let last = (run_column has_run behind).1 in
    address_in (column (drop 1 text)) text >>= λ loaded.
    run_address loaded (run_column has_run behind).0 behind >>= λ start.
    count_in (column last) last >>= λ count.
    Ok (record { start = start; count = count; is_data = begins text (codes ">") })

abbrev pub is_row : List ℕ → Bool
is_row text = begins text (codes ".") || begins text (codes ">")

abbrev pub bytes_if : Bool → List ℕ → Result (Option Bytes) LineFault
bytes_if has_run text = if is_row text then (bytes_in has_run text >>= λ bytes. Ok (Some bytes))
    else Ok None

unfoldable pub row_of : Bool → List ℕ → Result Said LineFault
row_of has_run line =
    numbers_of (column line) line >>= λ numbers.
    bytes_if has_run (behind_tab line) >>= λ bytes.
    Ok (row numbers bytes)

-- ---- a head: `:2`, a tab, and `;******  Processing file: sum.asm`

abbrev pub with_digits : List ℕ → Option ℕ → List ℕ → Result Said LineFault
with_digits line None rest = Err (fault_at NoHead line)
with_digits line (Some number) rest
    = if begins rest (codes ";******  ") && begins (cut (byte ":") rest).1 (codes " ")
    then Ok (head number (drop 1 (cut (byte ":") rest).1)) else Err (fault_at NoHead line)

unfoldable pub head_of : List ℕ → Result Said LineFault
head_of line = with_digits line (decimal_in (column (drop 1 line))) (behind_tab (drop 1 line))

-- ---- rows that are left out, since they repeat the one before: `...repeated 17 times (272 bytes)...`

abbrev pub is_repeated : List ℕ → Bool
is_repeated line = begins line (codes "\t;\t...repeated ")
    || begins line (codes "\t;\t\t...repeated ")

abbrev pub repeated_or_fault : List ℕ → Option ℕ → Result Said LineFault
repeated_or_fault line None = Err (fault_at NoNumber line)
repeated_or_fault line (Some count) = Ok (repeated count)

-- The number of bytes stands behind `(`, up to a blank.
unfoldable pub repeated_of : List ℕ → Result Said LineFault
repeated_of line = repeated_or_fault line
    (decimal_in (cut (byte " ") (cut (byte "(") line).1).0)

-- ---- a line

abbrev pub is_nothing : List ℕ → Bool
is_nothing line = length line == 0 || begins line (codes ";")

unfoldable pub said_by : Bool → List ℕ → Result Said LineFault
said_by has_run line = if is_nothing line then Ok nothing
    else if begins line (codes ":") then head_of line
    else if is_repeated line then repeated_of line
    else row_of has_run line
