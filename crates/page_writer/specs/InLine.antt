-- A text in one line. Source: mos65.
use Rattle.std.specs.Prelude.{ℕ, ◌==◌, if◌then◌else◌, List, map}

-- The end of a line would end the fact: a blank stands for it.
abbrev pub in_line : ℕ → ℕ
in_line b = if b == 10 then 32 else b

abbrev pub line_of : List ℕ → List ℕ
line_of text = map in_line text
