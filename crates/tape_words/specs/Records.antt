-- What a record of a tape claims by its digits, and what is to be said of an end record. Source:
-- mos65.
use Rattle.std.specs.Prelude.{ℕ, ◌+◌, ◌==◌, ◌&&◌, Bool, if◌then◌else◌, List, Option, Some, None, drop, length, take}
use Rattle.std.specs.List.{list_all}
use Rattle.std.specs.Option.{option_map}
use Rattle.model.specs.Digits.{is_hex_byte}
use Rattle.model.specs.Tape.{Claim, claim_of, needed}
use Rattle.tape_words.specs.declared.records.EndRecord.{EndRecord}
use Rattle.tape_words.specs.declared.records.EndRecord.TheVariants.{Missing, Right, CountTwice, WrongSum, WrongCount}
use Rattle.tape_words.specs.declared.records.RecordNumbers.{RecordNumbers}

-- The digits of a record that begin a text, as many as the first two say, or all that is there.
abbrev pub digits_in_front : List ℕ → List ℕ
digits_in_front text = take (needed text) text

-- Whether some bytes are all digits of a record.
abbrev pub are_all_digits : List ℕ → Bool
are_all_digits digits = list_all is_hex_byte digits && (length digits == needed digits)

abbrev pub claim_if_all : List ℕ → Option Claim
claim_if_all digits = if are_all_digits digits then Some (claim_of digits) else None

-- What a record claims whose digits begin a text, if they are all there.
unfoldable pub claim_in_front : List ℕ → Option Claim
claim_in_front text = claim_if_all (digits_in_front text)

-- What a record claims whose `;` stands at a place.
abbrev pub claim_at : List ℕ → ℕ → Option Claim
claim_at text place = claim_in_front (drop (place + 1) text)

-- The numbers of a claim, without the data.
abbrev pub numbers_of : Claim → RecordNumbers
numbers_of claim = record {
  length = claim.length;
  address = claim.address;
  sum = claim.sum;
  checksum = claim.checksum;
}

-- The numbers of a record whose `;` stands at a place.
abbrev pub numbers_at : List ℕ → ℕ → Option RecordNumbers
numbers_at text place = option_map numbers_of (claim_at text place)

-- What is to be said of an end record after so many data records, by its numbers: that its sum is
-- right, and whether it counts the records; that it has their number again in place of its sum;
-- that its sum is wrong otherwise.
abbrev pub end_by : ℕ → Option RecordNumbers → EndRecord
end_by records None = Missing
end_by records (Some numbers) = if numbers.sum == numbers.checksum
    then (if numbers.address == records then Right else WrongCount numbers.address)
    else if (numbers.address == records) && (numbers.checksum == numbers.address) then CountTwice
    else WrongSum

-- What is to be said of the end record whose `;` stands at a place.
abbrev pub end_record : List ℕ → ℕ → ℕ → EndRecord
end_record text place records = end_by records (numbers_at text place)
