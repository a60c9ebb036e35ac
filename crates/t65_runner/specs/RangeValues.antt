-- The values of a row's ranges, one call after another. Source: mos65; the generator, Press and
-- others, Numerical Recipes in C, 2nd edition, chapter 7.1 (after D. E. Knuth and H. W. Lewis); how
-- bits are mixed, `fmix32` of MurmurHash3 (A. Appleby).
use Rattle.std.specs.Prelude.{ℕ, zero, suc, ◌+◌, ◌-◌, ◌*◌, ◌/◌, ◌%◌, ◌^◌, bit_xor, min, Option, Some, None}
use Rattle.t65_reader.specs.declared.row.Choice.{Choice}
use Rattle.t65_reader.specs.declared.row.Choice.TheVariants.{All, Random}
use Rattle.t65_reader.specs.declared.row.Range.{Range}
use Rattle.t65_reader.specs.declared.row.Ranges.{Ranges}
use Rattle.t65_runner.specs.declared.range_values.Values.{Values}

-- How many values a range has; one where there is no range.
abbrev pub size_of : Option Range → ℕ
size_of None = 1
size_of (Some range) = range.last - range.first + 1

-- The value of a range by its number, counted from 0; 0 where there is no range.
abbrev pub value_in : Option Range → ℕ → ℕ
value_in None number = 0
value_in (Some range) number = range.first + number

-- ---- all values

-- A product, at most 2^64 - 1.
abbrev pub times : ℕ → ℕ → ℕ
times a b = min (a * b) (2 ^ 64 - 1)

abbrev pub all_count : Ranges → ℕ
all_count ranges = times (times (times (size_of ranges.first) (size_of ranges.second))
    (size_of ranges.third)) (size_of ranges.fourth)

-- All values by their number, counted from 0: those of the last range change first.
unfoldable pub all_at : Ranges → ℕ → Values
all_at ranges n =
    let third = n / size_of ranges.fourth in
    let second = third / size_of ranges.third in
    let first = second / size_of ranges.second in
    record {
      first = value_in ranges.first (first % size_of ranges.first);
      second = value_in ranges.second (second % size_of ranges.second);
      third = value_in ranges.third (third % size_of ranges.third);
      fourth = value_in ranges.fourth (n % size_of ranges.fourth);
      number = 0;
    }

-- ---- random values

-- The number after a number: a linear congruential generator modulo 2^32.
abbrev pub next_number : ℕ → ℕ
next_number x = (1664525 * x + 1013904223) % 4294967296

abbrev pub four_later : ℕ → ℕ
four_later x = next_number (next_number (next_number (next_number x)))

-- The number that stands before so many calls. Each takes four, one for each range that there can
-- be.
unfoldable pub number_before : ℕ → ℕ → ℕ
number_before seed zero = seed
number_before seed (suc n) = four_later (number_before seed n)

-- The value of a range for a number: the upper 16 bits, spread over the range.
abbrev pub drawn : Option Range → ℕ → ℕ
drawn range x = value_in range (x / 65536 * size_of range / 65536)

unfoldable pub random_after : Ranges → ℕ → Values
random_after ranges x =
    let first = next_number x in
    let second = next_number first in
    let third = next_number second in
    record {
      first = drawn ranges.first first;
      second = drawn ranges.second second;
      third = drawn ranges.third third;
      fourth = drawn ranges.fourth (next_number third);
      number = x;
    }

-- ---- random bytes

abbrev pub spread : ℕ → ℕ → ℕ → ℕ
spread x by factor = (bit_xor x (x / by) * factor) % 4294967296

-- A number whose bits all depend on those of another.
unfoldable pub mixed : ℕ → ℕ
mixed x = spread (spread (spread x 65536 2246822507) 8192 3266489909) 65536 1

abbrev pub place_number : ℕ → ℕ → ℕ
place_number number place = (number + 2654435769 * place) % 4294967296

-- The random byte of a place, in a call before which the generator has a number.
abbrev pub random_byte : ℕ → ℕ → ℕ
random_byte number place = mixed (place_number number place) / 16777216

-- ---- which

-- For how many values a row is run.
abbrev pub count_of : Ranges → Choice → ℕ
count_of ranges All = all_count ranges
count_of ranges (Random count seed) = count

abbrev pub seed_of : Choice → ℕ
seed_of All = 0
seed_of (Random count seed) = seed

-- The values for which a row is run, by their number, counted from 0, where that of the generator is
-- known.
abbrev pub values_by : Ranges → Choice → ℕ → ℕ → Values
values_by ranges All n number = all_at ranges n
values_by ranges (Random count seed) n number = random_after ranges number

abbrev pub values_at : Ranges → Choice → ℕ → Values
values_at ranges choice n = values_by ranges choice n (number_before (seed_of choice) n)
