-- The size of a screen as a word writes it. Source: mos65.
use Rattle.std.specs.Prelude.{ℕ, ◌+◌, ◌==◌, ◌&&◌, not, nat_le, nat_lt, Bool, if◌then◌else◌, List, length, take, drop, Option, None, Some, option_map}
use Rattle.std.specs.List.{prefix_len}
use Rattle.model.specs.Digits.{decimal_number}

abbrev pub is_no_x : ℕ → Bool
is_no_x b = not (b == 120)

-- A screen has 80 to 250 columns and 24 to 100 rows.
abbrev pub is_size : ℕ → ℕ → Bool
is_size columns rows
    = nat_le 80 columns && nat_le columns 250 && nat_le 24 rows && nat_le rows 100

abbrev pub both : Option ℕ → Option ℕ → Option (ℕ × ℕ)
both (Some columns) (Some rows) = if is_size columns rows then Some (columns, rows) else None
both columns rows = None

-- COLUMNSxROWS, in at most seven characters.
abbrev pub size_of : List ℕ → Option (ℕ × ℕ)
size_of word = if nat_lt 7 (length word) then None
    else both (decimal_number (take (prefix_len is_no_x word) word))
    (decimal_number (drop (prefix_len is_no_x word + 1) word))

-- The size that is asked for: none where no word says it.
abbrev pub size_asked : Option (List ℕ) → Option (Option (ℕ × ℕ))
size_asked None = Some None
size_asked (Some word) = option_map Some (size_of word)
