-- Digits, and the numbers that they write. Source: mos65.
use Rattle.std.specs.Prelude.{ℕ, ◌+◌, ◌-◌, ◌*◌, ◌&&◌, nat_le, Bool, if◌then◌else◌, List, [], ◌∷◌, Option, Some, None, is_some, unwrap_or}
use Rattle.std.specs.Str.{byte}
use Rattle.std.specs.Option.{option_and_then}

-- The value of a hex digit, in either letter case: `A` is 65, `a` is 97. No other byte has one.
abbrev pub hex_value : ℕ → Option ℕ
hex_value b =
    if nat_le (byte "A") b && nat_le b (byte "F") then Some (b - 55)
    else if nat_le (byte "a") b && nat_le b (byte "f") then Some (b - 87)
    else if nat_le (byte "0") b && nat_le b (byte "9") then Some (b - 48)
    else None

-- Whether a byte is a hex digit.
abbrev pub is_hex_byte : ℕ → Bool
is_hex_byte b = is_some (hex_value b)

-- The value of a byte that is known to be a digit.
abbrev pub digit_value : ℕ → ℕ
digit_value b = unwrap_or (hex_value b) 0

-- The value of a decimal digit. No other byte has one.
abbrev pub decimal_value : ℕ → Option ℕ
decimal_value b = if nat_le (byte "0") b && nat_le b (byte "9") then Some (b - 48) else None

-- The number that digits to a base write after those of another number, if each byte is a digit.
abbrev pub number_from : (ℕ → Option ℕ) → ℕ → ℕ → List ℕ → Option ℕ
number_from value base number [] = Some number
number_from value base number (b ∷ bytes)
    = option_and_then (λ digit. number_from value base (number * base + digit) bytes) (value b)

-- The number that hex digits write.
abbrev pub hex_number : List ℕ → Option ℕ
hex_number digits = number_from hex_value 16 0 digits

-- The number that decimal digits write.
abbrev pub decimal_number : List ℕ → Option ℕ
decimal_number digits = number_from decimal_value 10 0 digits
