-- How replies print numbers, registers and memory. Source: mos65.
use Rattle.std.specs.Prelude.{ℕ, ◌+◌, ◌-◌, ◌*◌, ◌/◌, ◌%◌, min, false, List, [], ◌∷◌, ◌++◌, nat_lt, if◌then◌else◌, codes, decimal, length, take, drop}
use Rattle.std.specs.List.{flat_map, range_with_len}
use Rattle.model.specs.State.{State}
use Rattle.model.specs.Effect.{status}

-- A capital hex digit.
abbrev pub hex_digit : ℕ → ℕ
hex_digit n = if nat_lt n 10 then 48 + n else 55 + n

-- A byte as two hex digits.
abbrev pub hex_byte : ℕ → List ℕ
hex_byte b = hex_digit (b / 16) ∷ hex_digit (b % 16) ∷ []

-- An address as four hex digits.
abbrev pub hex_address : ℕ → List ℕ
hex_address w = hex_byte (w / 256) ++ hex_byte (w % 256)

-- The register line. The status register is printed with B clear.
unfoldable pub register_line : State → List ℕ
register_line s =
    codes "A=" ++ hex_byte s.regs.a ++ codes " X=" ++ hex_byte s.regs.x ++ codes " Y="
    ++ hex_byte s.regs.y
    ++ codes " S=" ++ hex_byte s.regs.s ++ codes " P=" ++ hex_byte (status false s.regs.flags)
    ++ codes " PC=" ++ hex_address s.regs.pc ++ codes " CYC=" ++ decimal s.cycles ++ 10 ∷ []

-- Bytes, each with a space before it.
unfoldable pub spaced_bytes : List ℕ → List ℕ
spaced_bytes bytes = flat_map (λ b. 32 ∷ hex_byte b) bytes

-- The bytes of memory from one address to another.
abbrev pub bytes_between : List ℕ → ℕ → ℕ → List ℕ
bytes_between memory first last = take (last + 1 - first) (drop first memory)

-- A row of memory: the first address and, two spaces after it, the bytes.
unfoldable pub memory_row : List ℕ → ℕ → ℕ → List ℕ
memory_row memory first last
    = hex_address first ++ 32 ∷ spaced_bytes (bytes_between memory first last) ++ 10 ∷ []

-- Rows of 16 bytes from one address to another, the last row maybe shorter.
unfoldable pub memory_rows : List ℕ → ℕ → ℕ → List ℕ
memory_rows memory first last =
    flat_map (λ k. memory_row memory (first + 16 * k) (min last (first + 16 * k + 15)))
    (range_with_len 0 ((last - first) / 16 + 1))

-- A line of output bytes in hex, with no space between them: at most 32 bytes from an index on.
unfoldable pub output_row : List ℕ → ℕ → List ℕ
output_row out from = flat_map hex_byte (take 32 (drop from out)) ++ 10 ∷ []

-- How many bytes of output there are, and the bytes in lines of 32.
unfoldable pub output_text : List ℕ → List ℕ
output_text out =
    codes "OUT " ++ decimal (length out)
    ++ 10 ∷ flat_map (λ k. output_row out (32 * k)) (range_with_len 0 ((length out + 31) / 32))

-- An address after a space.
unfoldable pub address_part : ℕ → List ℕ
address_part address = 32 ∷ hex_address address

-- The breakpoints in order of setting.
unfoldable pub breaks_line : List ℕ → List ℕ
breaks_line breaks = codes "BREAKS" ++ flat_map address_part breaks ++ 10 ∷ []
