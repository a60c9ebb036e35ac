-- Characters of more than one byte, as UTF-8 writes them. Source: the Unicode Standard, table 3-7
-- (well-formed byte sequences), without the control characters U+0080..U+009F.
use Rattle.std.specs.Prelude.{ℕ, nat_le, ◌==◌, ◌&&◌, ◌||◌, Bool, false, if◌then◌else◌, List, ◌∷◌}

abbrev pub is_within : ℕ → ℕ → ℕ → Bool
is_within least most byte = nat_le least byte && nat_le byte most

-- The second byte of a character has a range that is shorter after some first bytes.
abbrev pub may_follow : ℕ → ℕ → Bool
may_follow first byte = if (first == 194) || (first == 224) then is_within 160 191 byte
    else if first == 237 then is_within 128 159 byte
    else if first == 240 then is_within 144 191 byte
    else if first == 244 then is_within 128 143 byte
    else is_within 128 191 byte

abbrev pub begins_two : List ℕ → Bool
begins_two (a ∷ b ∷ rest) = is_within 194 223 a && may_follow a b
begins_two bytes = false

abbrev pub begins_three : List ℕ → Bool
begins_three (a ∷ b ∷ c ∷ rest) = is_within 224 239 a && may_follow a b && is_within 128 191 c
begins_three bytes = false

abbrev pub begins_four : List ℕ → Bool
begins_four (a ∷ b ∷ c ∷ d ∷ rest) = is_within 240 244 a && may_follow a b
    && is_within 128 191 c && is_within 128 191 d
begins_four bytes = false

-- How many bytes follow the first one of the character that some bytes begin with; 0 if they begin
-- with a byte of ASCII, or with no character.
abbrev pub further : List ℕ → ℕ
further bytes = if begins_two bytes then 1 else if begins_three bytes then 2
    else if begins_four bytes then 3 else 0
