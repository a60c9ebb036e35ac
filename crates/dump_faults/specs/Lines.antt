-- The lines of a number, as a bus carries it: line 0 is its lowest bit. Source: mos65.
use Rattle.std.specs.Prelude.{ℕ, ◌/◌, ◌%◌, ◌^◌, ◌==◌, nat_lt, Bool, true, false, if◌then◌else◌, bit_or, bit_xor}

-- A number with a line at 1, or at 0.
abbrev pub with_line : ℕ → Bool → ℕ → ℕ
with_line line true n = bit_or n (2 ^ line)
with_line line false n = bit_xor (bit_or n (2 ^ line)) (2 ^ line)

-- Whether two lines of a number are the same.
abbrev pub are_same_lines : ℕ → ℕ → ℕ → Bool
are_same_lines one other n = n / 2 ^ one % 2 == n / 2 ^ other % 2

-- A number with two lines exchanged.
abbrev pub exchanged : ℕ → ℕ → ℕ → ℕ
exchanged one other n = if are_same_lines one other n then n
    else bit_xor (bit_xor n (2 ^ one)) (2 ^ other)

-- How many bytes stand between two addresses that differ in an address line alone.
abbrev pub block_of : ℕ → ℕ
block_of line = if nat_lt line 16 then 2 ^ line else 0
