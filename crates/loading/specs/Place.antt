-- What a place is: a name of the source or an address, and a number that is added or subtracted.
-- Source: mos65.
use Rattle.std.specs.Prelude.{ℕ, ◌+◌, ◌-◌, ◌%◌, ◌==◌, ◌&&◌, ◌||◌, nat_le, Bool, if◌then◌else◌, ℤ, pos, negsuc, List, [], ◌∷◌, length, take, drop, position, Option, Some, None}
use Rattle.std.specs.Option.{option_or}
use Rattle.std.specs.Str.{byte}
use Rattle.assembler.specs.Assembly.{AssemblyView}
use Rattle.model.specs.Commands.{address_of}
use Rattle.model.specs.Digits.{decimal_number, hex_number}
use Rattle.model.specs.Names.{Definitions, number_in}

-- ---- numbers

-- A number up to 65,535.
abbrev pub as_address : Option ℕ → Option ℕ
as_address None = None
as_address (Some number) = if nat_le number 65535 then Some number else None

-- One hex digit or more.
abbrev pub hex_of : List ℕ → Option ℕ
hex_of digits = if length digits == 0 then None else as_address (hex_number digits)

-- One decimal digit or more.
abbrev pub decimal_of : List ℕ → Option ℕ
decimal_of digits = if length digits == 0 then None else as_address (decimal_number digits)

-- The hex digits behind `$` or `0x`.
abbrev pub behind_mark : ℕ → List ℕ → Option (List ℕ)
behind_mark first [] = None
behind_mark first (mark ∷ digits)
    = if first == byte "0" && (mark == byte "x" || mark == byte "X") then Some digits else None

abbrev pub marked : List ℕ → Option (List ℕ)
marked [] = None
marked (b ∷ bytes) = if b == byte "$" then Some bytes else behind_mark b bytes

-- `$` or `0x` and hex digits, or decimal digits.
abbrev pub number_by : Option (List ℕ) → List ℕ → Option ℕ
number_by None word = decimal_of word
number_by (Some digits) word = hex_of digits

abbrev pub number_of : List ℕ → Option ℕ
number_of word = number_by (marked word) word

-- ---- addresses

-- A name's number, if it is an address.
abbrev pub named_address : Option ℤ → Option ℕ
named_address None = None
named_address (Some (pos number)) = if nat_le number 65535 then Some number else None
named_address (Some (negsuc number)) = None

-- `$` or `0x` and hex digits, or four hex digits.
abbrev pub written_by : Option (List ℕ) → List ℕ → Option ℕ
written_by None word = address_of word
written_by (Some digits) word = hex_of digits

abbrev pub written_address : List ℕ → Option ℕ
written_address word = written_by (marked word) word

-- A name's address comes first.
abbrev pub base_of : Option ℕ → List ℕ → Option ℕ
base_of named word = option_or named (written_address word)

-- ---- sums, which wrap

abbrev pub plus : Option ℕ → Option ℕ → Option ℕ
plus (Some address) (Some number) = Some ((address + number) % 65536)
plus address number = None

abbrev pub minus : Option ℕ → Option ℕ → Option ℕ
minus (Some address) (Some number) = Some ((address + (65536 - number)) % 65536)
minus address number = None

-- An address, and behind it nothing, or a sign and a number.
abbrev pub moved : Option ℕ → List ℕ → Option ℕ
moved address [] = address
moved address (sign ∷ digits) = if sign == byte "+" then plus address (number_of digits)
    else if sign == byte "-" then minus address (number_of digits)
    else None

-- ---- places

abbrev pub is_sign : ℕ → Bool
is_sign b = b == byte "+" || b == byte "-"

-- The names of a source; a tape has none.
abbrev pub names_of : Option AssemblyView → Definitions
names_of None = []
names_of (Some assembly) = assembly.names

-- The name or the address of a word, which its first sign ends.
abbrev pub front_at : List ℕ → Option ℕ → List ℕ
front_at word None = word
front_at word (Some at) = take at word

abbrev pub front_of : List ℕ → List ℕ
front_of word = front_at word (position is_sign word)

-- The sum behind it.
abbrev pub sum_at : List ℕ → Option ℕ → List ℕ
sum_at word None = []
sum_at word (Some at) = drop at word

abbrev pub sum_of : List ℕ → List ℕ
sum_of word = sum_at word (position is_sign word)

-- The address of a place, whose name may have an address.
abbrev pub place_by : Option ℕ → List ℕ → Option ℕ
place_by named word = moved (base_of named (front_of word)) (sum_of word)

-- The address of a place by the names of a source.
abbrev pub place_of : Definitions → List ℕ → Option ℕ
place_of names word = place_by (named_address (number_in names (front_of word))) word
