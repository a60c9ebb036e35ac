-- The addresses of an image's first byte and of its last. Source: mos65.
use Rattle.std.specs.Prelude.{◌≤◌, ℕ, List, Option, None, Some}
use Rattle.image_writer.specs.Window.{IsFirst, IsLast}

-- Both, or none where the image has no byte.
abbrev pub AreEnds : List (Option ℕ) → Option (ℕ × ℕ) → Type 0
AreEnds image None = IsFirst image None
AreEnds image (Some found) = (IsFirst image (Some found.0) × IsLast image (Some found.1))
    × (found.0 ≤ found.1)
