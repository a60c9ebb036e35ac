-- The image of two files that make one machine: what either has. Our own rule: where both have a byte
-- for an address, the bytes have to be the same. Source: mos65.
use Rattle.std.specs.Prelude.{◌≡◌, ◌<◌, ◌==◌, ℕ, Bool, not, true, false, List, Option, None, Some}
use Rattle.model.specs.Image.{cell_at}

-- What either has at an address: the first, where both have a byte.
abbrev pub joined_cell : Option ℕ → Option ℕ → Option ℕ
joined_cell None other = other
joined_cell (Some b) other = Some b

-- Both have a byte at an address, and these are two.
abbrev pub differ : Option ℕ → Option ℕ → Bool
differ None other = false
differ (Some b) None = false
differ (Some b) (Some d) = not (b == d)

abbrev pub IsUnion : List (Option ℕ) → List (Option ℕ) → List (Option ℕ) → Type 0
IsUnion one other both = (address : ℕ) → address < 65536
    → cell_at both address ≡ joined_cell (cell_at one address) (cell_at other address)

abbrev pub differ_at : List (Option ℕ) → List (Option ℕ) → ℕ → Bool
differ_at one other address = differ (cell_at one address) (cell_at other address)

-- The lowest address at which they differ so, or none where there is none.
abbrev pub IsFirstClash : List (Option ℕ) → List (Option ℕ) → Option ℕ → Type 0
IsFirstClash one other None
    = (address : ℕ) → address < 65536 → differ_at one other address ≡ false
IsFirstClash one other (Some address) = (differ_at one other address ≡ true)
    × ((lower : ℕ) → lower < address → differ_at one other lower ≡ false)
