-- Where something stands. Source: mos65.
use Rattle.std.specs.Prelude.{ℕ, List, ◌∷◌, ◌++◌, codes}
use Rattle.std.specs.Fmt.{decimal}

-- `FILE:LINE:COLUMN: `.
abbrev pub place_of : List ℕ → ℕ → ℕ → List ℕ
place_of file line column
    = file ++ 58 ∷ (decimal line ++ 58 ∷ (decimal column ++ codes ": "))
