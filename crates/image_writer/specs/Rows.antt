-- The stretches of bytes in which an image is written: its maximal runs, each cut from its start
-- into 16 bytes and a rest. Source: mos65; 16 data bytes a record as GNU objcopy writes them.
use Rattle.std.specs.Prelude.{ℕ, ◌+◌, ◌-◌, ◌==◌, if◌then◌else◌, List, [], ◌∷◌, ◌++◌, length, Option, None, Some}
use Rattle.model.specs.Image.{with_bytes}
use Rattle.model.specs.TapeText.{Stretch}

-- The bytes before an address, if there are some.
abbrev pub ended : ℕ → List ℕ → List Stretch
ended address [] = []
ended address (b ∷ bytes) = (address - length (b ∷ bytes), b ∷ bytes) ∷ []

-- The stretches of the cells from an address on, where some bytes right before it are begun.
abbrev pub rows : ℕ → List ℕ → List (Option ℕ) → List Stretch
rows address begun [] = ended address begun
rows address begun (None ∷ cells) = ended address begun ++ rows (address + 1) [] cells
rows address begun (Some b ∷ cells) = if length begun == 15
    then ended (address + 1) (begun ++ b ∷ []) ++ rows (address + 1) [] cells
    else rows (address + 1) (begun ++ b ∷ []) cells

-- What stretches put.
abbrev pub put_rows : List (Option ℕ) → List Stretch → List (Option ℕ)
put_rows cells [] = cells
put_rows cells (row ∷ rest) = put_rows (with_bytes cells row.0 row.1) rest
