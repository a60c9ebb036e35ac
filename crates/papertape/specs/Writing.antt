-- The writer's way over an image, from cell to cell.
use Rattle.std.specs.Prelude.{◌≡◌, ℕ, zero, suc, ◌+◌, ◌<◌, ◌≤◌, List, [], ◌∷◌, length, drop, Option, None, Some}
use Rattle.model.specs.Image.{with_bytes}
use Rattle.model.specs.TapeText.{Stretch}

-- the bytes at the front, at most so many
abbrev pub front_bytes : ℕ → List (Option ℕ) → List ℕ
front_bytes zero cells = []
front_bytes (suc n) [] = []
front_bytes (suc n) (None ∷ cells) = []
front_bytes (suc n) (Some b ∷ cells) = b ∷ front_bytes n cells

-- the pieces of at most 24 bytes that cover the cells from an address on, where the first cells are
-- covered
abbrev pub cuts : ℕ → ℕ → List (Option ℕ) → List Stretch
cuts address covered [] = []
cuts address (suc n) (c ∷ cells) = cuts (address + 1) n cells
cuts address zero (None ∷ cells) = cuts (address + 1) 0 cells
cuts address zero (Some b ∷ cells)
    = (address, b ∷ front_bytes 23 cells) ∷ cuts (address + 1) (length (front_bytes 23 cells)) cells

-- what the cuts write
abbrev pub cut_writes : List (Option ℕ) → List Stretch → List (Option ℕ)
cut_writes cells [] = cells
cut_writes cells (c ∷ cs) = cut_writes (with_bytes cells c.0 c.1) cs

-- what stands first, if anything does
abbrev pub first_cell : List (Option ℕ) → Option ℕ
first_cell [] = None
first_cell (c ∷ cells) = c

-- after an address a piece comes next, and the cuts go on after it
pub record ComesNext (cells : List (Option ℕ)) (from : ℕ) (piece : Stretch) : Type 0 where
  pub cut : cuts from 0 (drop from cells)
      ≡ piece ∷ cuts (piece.0 + length piece.1) 0 (drop (piece.0 + length piece.1) cells)
  pub some : 0 < length piece.1
  pub ahead : from ≤ piece.0
  pub inside : piece.0 + length piece.1 ≤ 65536

-- the piece that comes next after an address, if one does
abbrev pub IsNext : List (Option ℕ) → ℕ → Option Stretch → Type 0
IsNext cells from None = cuts from 0 (drop from cells) ≡ []
IsNext cells from (Some piece) = ComesNext cells from piece
