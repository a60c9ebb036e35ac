-- Blanks that fill a row up. Source: mos65.
use Rattle.std.specs.Prelude.{ℕ, ◌-◌, List, ◌++◌, length, replicate}

abbrev pub blanks : ℕ → List ℕ
blanks count = replicate count 32

-- A row, with blanks behind it up to a width.
unfoldable pub padded : ℕ → List ℕ → List ℕ
padded width row = row ++ blanks (width - length row)
