-- The regions of an image in which all bytes are the same. Source: mos65.
use Rattle.std.specs.Prelude.{ℕ, ◌+◌, ◌-◌, ◌==◌, ◌&&◌, nat_le, Bool, if◌then◌else◌, List, [], ◌∷◌, filter, Option, Some, None}
use Rattle.dump_faults.specs.declared.regions.Region.{Region}

-- A byte alone.
abbrev pub one_byte : ℕ → ℕ → Region
one_byte address byte = record { first = address; last = address; value = byte }

-- A byte before runs of equal bytes: it begins the first of them, if that begins right after it
-- with the same byte.
abbrev pub before_runs : ℕ → ℕ → List Region → List Region
before_runs address byte [] = one_byte address byte ∷ []
before_runs address byte (next ∷ later) = if (next.first == address + 1) && (next.value == byte)
    then record { first = address; last = next.last; value = byte } ∷ later
    else one_byte address byte ∷ next ∷ later

-- The same of a cell.
abbrev pub with_cell : ℕ → Option ℕ → List Region → List Region
with_cell address None later = later
with_cell address (Some byte) later = before_runs address byte later

-- The maximal runs of equal bytes of the cells from an address on, in rising order.
unfoldable pub equal_runs : ℕ → List (Option ℕ) → List Region
equal_runs address [] = []
equal_runs address (cell ∷ cells) = with_cell address cell (equal_runs (address + 1) cells)

-- Whether a run has at least the bytes of a page.
abbrev pub is_long : Region → Bool
is_long run = nat_le 256 (run.last - run.first + 1)

-- The regions of one value: the maximal runs of equal bytes with at least the bytes of a page.
unfoldable pub regions_of : List (Option ℕ) → List Region
regions_of cells = filter is_long (equal_runs 0 cells)
