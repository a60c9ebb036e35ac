-- A part of an image. Source: mos65.
use Rattle.std.specs.Prelude.{◌≡◌, ℕ, ◌<◌, ◌&&◌, nat_le, Bool, true, if◌then◌else◌, is_some, slice_set, List, Option, None, Some, Result, Ok}
use Rattle.image_reader.specs.declared.fault.ImageFault.{ImageFault}
use Rattle.model.specs.Image.{cell_at}

-- A byte in place of none, if there is one to fill with.
abbrev pub filled_with : Option ℕ → Option ℕ → Option ℕ
filled_with fill None = fill
filled_with fill (Some b) = Some b

-- An image with what a cell is at an address, if it has a byte.
abbrev pub with_cell : List (Option ℕ) → ℕ → Option ℕ → List (Option ℕ)
with_cell part address None = part
with_cell part address (Some b) = slice_set part address (Some b)

-- An address is among those from one to another, both included.
abbrev pub is_inside : ℕ → ℕ → ℕ → Bool
is_inside low high address = nat_le low address && nat_le address high

-- The image with what is from one address to another, gaps filled, and nothing elsewhere.
abbrev pub IsPart : ℕ → ℕ → Option ℕ → List (Option ℕ) → List (Option ℕ) → Type 0
IsPart low high fill cells part = (address : ℕ) → cell_at part address
    ≡ (if is_inside low high address then filled_with fill (cell_at cells address) else None)

-- What is read is that part of an image, with a byte in place of none.
abbrev pub IsReadPart : ℕ → ℕ → ℕ → List (Option ℕ) → Result (List (Option ℕ)) ImageFault → Type 0
IsReadPart low high fill cells read
    = (part : List (Option ℕ)) × (read ≡ Ok part) × IsPart low high (Some fill) cells part

-- The first address with a byte, if there is one.
abbrev pub IsFirst : List (Option ℕ) → Option ℕ → Type 0
IsFirst cells None = (address : ℕ) → address < 65536 → cell_at cells address ≡ None
IsFirst cells (Some first) = (is_some (cell_at cells first) ≡ true)
    × ((address : ℕ) → address < first → cell_at cells address ≡ None)

-- The last of the first addresses with a byte, if there is one among so many.
abbrev pub IsLastBefore : ℕ → List (Option ℕ) → Option ℕ → Type 0
IsLastBefore end cells None = (address : ℕ) → address < end → cell_at cells address ≡ None
IsLastBefore end cells (Some last) = (last < end) × (is_some (cell_at cells last) ≡ true)
    × ((address : ℕ) → last < address → address < end → cell_at cells address ≡ None)

-- The last address with a byte, if there is one.
abbrev pub IsLast : List (Option ℕ) → Option ℕ → Type 0
IsLast cells last = IsLastBefore 65536 cells last
