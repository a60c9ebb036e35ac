-- Values of marks, as words of the command line and lines of a file of marks write them: a range of
-- addresses, and a routine with what follows its calls. Source: mos65.
use Rattle.std.specs.Prelude.{ℕ, List, take, drop, get_or, length, nat_le, ◌==◌, ◌&&◌, if◌then◌else◌, Option, Some, None, option_map}
use Rattle.std.specs.Option.{option_or}
use Rattle.model.specs.Commands.{address_of, from_1_to}
use Rattle.model.specs.Digits.{decimal_number}
use Rattle.reached.specs.declared.inline.Inline.{Inline}
use Rattle.reached.specs.declared.inline.Tail.{Tail}
use Rattle.reached.specs.declared.inline.Tail.TheVariants.{String, Counted, HighBit, Bytes}

-- Two addresses, the first at most the last.
abbrev pub addresses_of : Option ℕ → Option ℕ → Option (ℕ × ℕ)
addresses_of (Some first) (Some last) = if nat_le first last then Some (first, last) else None
addresses_of first last = None

-- LO-HI.
abbrev pub range_of : List ℕ → Option (ℕ × ℕ)
range_of word =
    if length word == 9 && get_or word 4 0 == 45
    then addresses_of (address_of (take 4 word)) (address_of (drop 5 word))
    else None

-- A number from 1 to 65535.
abbrev pub number_of : List ℕ → Option ℕ
number_of word = if nat_le (length word) 5 then from_1_to 65535 (decimal_number word) else None

-- So many bytes.
abbrev pub count_of : List ℕ → Option Tail
count_of word = option_map Bytes (number_of word)

-- The letter of a string: `z` ends with 0, `n` begins with its length, `h` ends with bit 7.
abbrev pub letter_of : ℕ → Option Tail
letter_of b = if b == 122 then Some String
    else if b == 110 then Some Counted
    else if b == 104 then Some HighBit else None

-- What follows a call: a string by its letter, or a count of bytes.
abbrev pub tail_of : List ℕ → Option Tail
tail_of word = if length word == 1
    then option_or (letter_of (get_or word 0 0)) (count_of word) else count_of word

abbrev pub routine_from : Option ℕ → Option Tail → Option Inline
routine_from (Some address) (Some tail) = Some (record { address = address; tail = tail })
routine_from address tail = None

-- ADDRESS=z, ADDRESS=n, ADDRESS=h or ADDRESS=N.
abbrev pub routine_of : List ℕ → Option Inline
routine_of word =
    if nat_le 6 (length word) && (get_or word 4 0 == 61)
    then routine_from (address_of (take 4 word)) (tail_of (drop 5 word))
    else None
