-- An image: at each of the 65,536 addresses a byte or nothing. Source: mos65.
use Rattle.std.specs.Prelude.{◌≡◌, ℕ, ◌+◌, ◌<◌, Bool, is_some, List, [], ◌∷◌, length, Option, None, Some, IfSome, replicate, slice_index_or, slice_set}
use Rattle.std.specs.List.{All}

-- The image with no byte anywhere. Source: mos65. The word hides its size, so that no proof
-- computes it.
unfoldable pub empty_image : List (Option ℕ)
empty_image = replicate 65536 None

-- What an image has at an address. Source: mos65.
abbrev pub cell_at : List (Option ℕ) → ℕ → Option ℕ
cell_at cells address = slice_index_or cells address None

-- Whether there is a byte at an address. Source: mos65.
unfoldable pub has_byte : List (Option ℕ) → ℕ → Bool
has_byte cells address = is_some (cell_at cells address)

-- The image with these bytes put from an address on. Source: mos65.
abbrev pub with_bytes : List (Option ℕ) → ℕ → List ℕ → List (Option ℕ)
with_bytes cells address [] = cells
with_bytes cells address (b ∷ bytes)
    = with_bytes (slice_set cells address (Some b)) (address + 1) bytes

-- Nothing, or a byte.
abbrev pub IsCell : Option ℕ → Type 0
IsCell cell = IfSome cell (λ b. b < 256)

-- What every image is: 65,536 cells, each nothing or a byte.
pub record IsImage (cells : List (Option ℕ)) : Type 0 where
  pub size : length cells ≡ 65536
  pub each : All IsCell cells
