-- The lines of a file of rows, by their numbers. Source: mos65.
use Rattle.std.specs.Prelude.{ℕ, ◌+◌, ◌-◌, min, List, [], if◌then◌else◌, nat_lt, length, drop, slice_get}
use Rattle.std.specs.Option.{unwrap_or}
use Rattle.t65_reports.specs.declared.row_lines.RowLines.{RowLines}
use Rattle.model.specs.TextLines.{lines_of}

-- The lines that are left to walk along.
abbrev pub lines_left : RowLines → List (List ℕ)
lines_left walk = lines_of walk.rest.now

-- The line with a number, where the first of some lines has the number `next`; no byte where that
-- line is not among them.
abbrev pub line_at : ℕ → ℕ → List (List ℕ) → List ℕ
line_at number next lines
    = if nat_lt number next then [] else unwrap_or (slice_get lines (number - next)) []

-- The lines after it; all where it stands before the first.
abbrev pub lines_after : ℕ → ℕ → List (List ℕ) → List (List ℕ)
lines_after number next lines
    = if nat_lt number next then lines else drop (number + 1 - next) lines

-- The number of the first line that is left, or of one that would follow: the highest number, where
-- that would be higher.
abbrev pub next_after : ℕ → ℕ → List (List ℕ) → ℕ
next_after number next lines = if nat_lt number next then next
    else min (min (number + 1) (next + length lines)) 4294967295
