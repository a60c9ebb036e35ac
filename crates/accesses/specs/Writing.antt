-- Which addresses were ever written. Source: mos65.
use Rattle.std.specs.Prelude.{◌≡◌, ℕ, ◌<◌, ◌==◌, Bool, true, false, is_some, List, [], ◌∷◌, length, map, Option, replicate, slice_index, slice_index_or, slice_set}

abbrev pub is_written : List Bool → ℕ → Bool
is_written cells address = slice_index_or cells address false

-- The addresses at which an image has a byte.
abbrev pub bytes_in : List (Option ℕ) → List Bool
bytes_in image = map is_some image

-- With a byte at each of these addresses too.
unfoldable pub with_bytes : List Bool → List ℕ → List Bool
with_bytes cells [] = cells
with_bytes cells (address ∷ addresses) = with_bytes (slice_set cells address true) addresses

-- A byte everywhere. The word hides its size, so that no proof computes it.
unfoldable pub everywhere : List Bool
everywhere = replicate 65536 true

-- Each address, if it is to count as written whatever was put there.
abbrev pub or_everywhere : Bool → List Bool → List Bool
or_everywhere true cells = everywhere
or_everywhere false cells = cells

-- ---- marks

-- A mark of 0 says that a byte was put at its address.
abbrev pub is_unmarked : ℕ → Bool
is_unmarked mark = mark == 0

-- A mark for each address.
abbrev pub AreMarks : List ℕ → List Bool → Type 0
AreMarks marks cells = (address : ℕ) → address < length cells
    → is_written cells address ≡ is_unmarked (slice_index marks address)
