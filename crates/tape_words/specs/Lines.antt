-- In which line of a text a byte stands. Source: mos65.
use Rattle.std.specs.Prelude.{ℕ, zero, suc, ◌+◌, ◌==◌, ◌&&◌, ◌||◌, not, Bool, false, if◌then◌else◌, List, [], ◌∷◌, drop}

abbrev pub is_line_feed_next : List ℕ → Bool
is_line_feed_next [] = false
is_line_feed_next (b ∷ text) = b == 10

-- A line ends with an LF, or with a CR that no LF follows.
abbrev pub ends_line : ℕ → List ℕ → Bool
ends_line b text = b == 10 || b == 13 && not (is_line_feed_next text)

-- 1 where the first byte of a text ends a line.
abbrev pub ends_first : List ℕ → ℕ
ends_first [] = 0
ends_first (b ∷ text) = if ends_line b text then 1 else 0

-- How many of the first bytes of a text end a line.
unfoldable pub line_ends : ℕ → List ℕ → ℕ
line_ends zero text = 0
line_ends (suc count) text = ends_first text + line_ends count (drop 1 text)

-- The number of the line in which a byte stands, from 1 on.
abbrev pub line_of : List ℕ → ℕ → ℕ
line_of text offset = 1 + line_ends offset text
