-- What is left out of a source: runs of the byte with which an image is padded. Source: mos65.
use Rattle.std.specs.Prelude.{◌≡◌, ◌⊎◌, ⊤, ℕ, ◌+◌, ◌-◌, ◌<◌, ◌≤◌, List, Option, Some, None, is_some, count_by, unwrap_or}
use Rattle.model.specs.Image.{cell_at}

-- The 16 cells from an address on all have the fill byte.
abbrev pub IsRun : List (Option ℕ) → ℕ → ℕ → Type 0
IsRun cells fill begin = (k : ℕ) → k < 16 → cell_at cells (begin + k) ≡ Some fill

-- An address is one of 16 in a row that all have the fill byte.
pub record IsInRun (cells : List (Option ℕ)) (fill address : ℕ) : Type 0 where
  pub begin : ℕ
  pub low : begin ≤ address
  pub high : address < begin + 16
  pub run : IsRun cells fill begin

-- A cell is what is kept at an address: nothing in a run of the fill byte, and elsewhere what the
-- image has there. Without a fill byte it is always what the image has.
abbrev pub IsKept : List (Option ℕ) → Option ℕ → ℕ → Option ℕ → Type 0
IsKept cells None address cell = cell ≡ cell_at cells address
IsKept cells (Some fill) address cell = (IsInRun cells fill address × (cell ≡ None))
    ⊎ ((IsInRun cells fill address → ⊥) × (cell ≡ cell_at cells address))

-- Each cell of a part is what is kept there.
abbrev pub AreKept : List (Option ℕ) → Option ℕ → List (Option ℕ) → Type 0
AreKept cells fill part = (a : ℕ) → a < 65536 → IsKept cells fill a (cell_at part a)

-- Two images are the same once their gaps are filled.
abbrev pub AreSameFilled : Option ℕ → List (Option ℕ) → List (Option ℕ) → Type 0
AreSameFilled None cells part = ⊤
AreSameFilled (Some fill) cells part = (a : ℕ) → a < 65536
    → unwrap_or (cell_at part a) fill ≡ unwrap_or (cell_at cells a) fill

-- How many bytes an image has.
abbrev pub bytes_in : List (Option ℕ) → ℕ
bytes_in cells = count_by is_some cells

-- How many bytes a part of it leaves out.
abbrev pub bytes_left_out : List (Option ℕ) → List (Option ℕ) → ℕ
bytes_left_out cells part = bytes_in cells - bytes_in part
