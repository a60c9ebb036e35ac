-- A byte that makes the sum of an image 0. Source: mos65; the sum 0 is that of the PCI firmware
-- specification, of the bytes of an expansion ROM.
use Rattle.std.specs.Prelude.{◌≡◌, ℕ, ◌%◌, ◌<◌, is_some, true, slice_set, List, Option, None, Some}
use Rattle.std.specs.List.{sum_by}
use Rattle.model.specs.Image.{cell_at}

-- What a cell adds to a sum.
abbrev pub cell_value : Option ℕ → ℕ
cell_value None = 0
cell_value (Some b) = b

-- The sum of all bytes, modulo 256.
abbrev pub sum_8 : List (Option ℕ) → ℕ
sum_8 cells = sum_by cell_value cells % 256

-- An image with another byte in place of the one at an address, such that all bytes sum to 0; all
-- others stand as they are. If no address is said, the image is as it is.
abbrev pub IsSummed : Option ℕ → List (Option ℕ) → List (Option ℕ) → Type 0
IsSummed None part summed = summed ≡ part
IsSummed (Some address) part summed = (byte : ℕ) × (byte < 256)
    × (is_some (cell_at part address) ≡ true) × (summed ≡ slice_set part address (Some byte))
    × (sum_8 summed ≡ 0)

-- An image has no byte at an address that is said.
abbrev pub HasNoByteAt : Option ℕ → List (Option ℕ) → Type 0
HasNoByteAt None part = ⊥
HasNoByteAt (Some address) part = cell_at part address ≡ None
