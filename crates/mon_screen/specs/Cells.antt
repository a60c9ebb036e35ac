-- Rows of cells, made of the lines of texts. Source: mos65.
use Rattle.std.specs.Prelude.{ℕ, zero, suc, ◌+◌, ◌-◌, ◌==◌, not, Bool, if◌then◌else◌, List, [], ◌∷◌, ◌++◌, drop, take}
use Rattle.std.specs.List.{flat_map, prefix_len}
use Rattle.formatting.specs.Padding.{padded}
use Rattle.mon_instructions.specs.Characters.{shown_character}
use Rattle.mon_screen.specs.declared.wording.TheConstants.{ROW_END}

-- ---- lines of a text

abbrev pub is_no_lf : ℕ → Bool
is_no_lf b = not (b == 10)

-- The first line of a text, and what is behind its LF.
abbrev pub first_line : List ℕ → List ℕ
first_line text = take (prefix_len is_no_lf text) text

abbrev pub behind_line : List ℕ → List ℕ
behind_line text = drop 1 (drop (prefix_len is_no_lf text) text)

-- What is behind the first so many lines.
unfoldable pub behind_lines : ℕ → List ℕ → List ℕ
behind_lines zero text = text
behind_lines (suc n) text = behind_lines n (behind_line text)

-- How many lines have ended in a text.
abbrev pub ending : ℕ → ℕ
ending b = if b == 10 then 1 else 0

unfoldable pub line_count : List ℕ → ℕ
line_count [] = 0
line_count (b ∷ text) = ending b + line_count text

-- The last so many lines of a text whose last line has ended: all, if there are no more.
abbrev pub last_lines : ℕ → List ℕ → List ℕ
last_lines count text = behind_lines (line_count text - count) text

-- ---- rows

-- A byte is one cell: its character, a blank for a tab, and a point for any other byte.
abbrev pub cell : ℕ → List ℕ
cell b = (if b == 9 then 32 else shown_character b) ∷ []

-- The cells of a line in a column so wide: as many as go into it but for the last cell, which
-- stays blank, and blanks behind them.
unfoldable pub cells : ℕ → List ℕ → List ℕ
cells width line = padded width (flat_map cell (take (width - 1) line))

-- The first lines of two texts beside each other, in columns so wide.
abbrev pub row : ℕ → ℕ → List ℕ → List ℕ → List ℕ
row left right one other = cells left (first_line one) ++ cells right (first_line other)

-- So many rows of two columns, in which the lines of two texts stand beside each other.
unfoldable pub beside : ℕ → ℕ → ℕ → List ℕ → List ℕ → List (List ℕ)
beside zero left right one other = []
beside (suc n) left right one other
    = row left right one other ∷ beside n left right (behind_line one) (behind_line other)

-- So many rows with the lines of one text.
abbrev pub block : ℕ → ℕ → List ℕ → List (List ℕ)
block count columns text = beside count columns 0 text []

-- Words, and below them the last so many lines of a text.
abbrev pub titled : ℕ → ℕ → List ℕ → List ℕ → List (List ℕ)
titled count columns title text
    = block 1 columns title ++ block count columns (last_lines count text)

-- ---- as they are written

abbrev pub ended : List ℕ → List ℕ
ended row = row ++ ROW_END.now

unfoldable pub written : List (List ℕ) → List ℕ
written rows = flat_map ended rows
