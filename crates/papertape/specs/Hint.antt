-- Which texts begin with a record of a tape. Source: mos65.
use Rattle.std.specs.Prelude.{◌≡◌, ℕ, ◌+◌, ◌==◌, ◌||◌, Bool, not, List, [], ◌∷◌, ◌++◌, take, drop, position, Option, Some, None}
use Rattle.std.specs.List.{prefix_len}
use Rattle.std.specs.Str.{byte}
use Rattle.papertape.specs.Streaming.{GoesOn}

-- A record begins with `;`.
abbrev pub is_start : ℕ → Bool
is_start b = b == byte ";"

-- A line ends with a CR or an LF.
abbrev pub is_inside : ℕ → Bool
is_inside b = not (b == 13 || b == 10)

-- A text up to the first line end after so many bytes.
abbrev pub to_line_end : ℕ → List ℕ → List ℕ
to_line_end start text = take (start + prefix_len is_inside (drop start text)) text

abbrev pub front_from : Option ℕ → List ℕ → Option (List ℕ)
front_from None text = None
front_from (Some start) text = Some (to_line_end start text)

-- A text up to the end of the line in which its first record begins, if one begins.
abbrev pub record_front : List ℕ → Option (List ℕ)
record_front text = front_from (position is_start text) text

-- A text begins with a whole and right record: up to the end of that record's line, a tape may go on
-- with the next record.
pub record BeginsTape (text : List ℕ) : Type 0 where
  pub front : List ℕ
  pub begins : record_front text ≡ Some front
  pub goes_on : GoesOn (front ++ byte ";" ∷ [])
