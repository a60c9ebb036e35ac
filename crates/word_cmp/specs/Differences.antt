-- Where two images differ. Source: mos65.
use Rattle.std.specs.Prelude.{ℕ, zero, suc, ◌==◌, Bool, not, if◌then◌else◌, List, [], ◌∷◌, ◌++◌, length, Option}
use Rattle.dump_faults.specs.Faults.{same_cell}
use Rattle.model.specs.Image.{cell_at}

-- Whether two images differ at an address.
abbrev pub differs : List (Option ℕ) → List (Option ℕ) → ℕ → Bool
differs one other address = not (same_cell (cell_at one address) (cell_at other address))

-- The addresses below a bound at which they differ, in rising order.
unfoldable pub differences_below : List (Option ℕ) → List (Option ℕ) → ℕ → List ℕ
differences_below one other zero = []
differences_below one other (suc n) = differences_below one other n
    ++ (if differs one other n then n ∷ [] else [])

-- All of them.
abbrev pub differences : List (Option ℕ) → List (Option ℕ) → List ℕ
differences one other = differences_below one other (length one)
