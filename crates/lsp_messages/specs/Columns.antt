-- Columns in units of UTF-16. Source: Language Server Protocol 3.17, "Position"; of which bytes and
-- units a character has, RFC 3629, section 3, and RFC 2781, section 2.
use Rattle.std.specs.Prelude.{ℕ, Bool, suc, ◌-◌, ◌==◌, ◌&&◌, nat_le, nat_lt, min, if◌then◌else◌, List, [], ◌∷◌, sum_by, take}

-- How many units a byte of UTF-8 begins: two where four bytes are one character, none within one.
abbrev pub units_of : ℕ → ℕ
units_of b = if nat_le 240 b then 2 else if nat_le 128 b && nat_lt b 192 then 0 else 1

-- The highest number of a column.
abbrev pub most : ℕ
most = 18446744073709551615

-- How many units stand before a byte of a line, by its index.
abbrev pub units_before : ℕ → List ℕ → ℕ
units_before start line = min most (sum_by units_of (take start line))

-- A character begins with a byte, and no unit is left to stand before it.
abbrev pub is_reached : ℕ → ℕ → Bool
is_reached units b = (units == 0) && nat_lt 0 (units_of b)

-- The index of the first character of a line before which so many units stand, or how many bytes
-- the line has.
unfoldable pub column_of : ℕ → List ℕ → ℕ
column_of units [] = 0
column_of units (b ∷ line)
    = if is_reached units b then 0 else suc (column_of (units - units_of b) line)
