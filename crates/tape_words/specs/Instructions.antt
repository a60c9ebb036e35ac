-- The instruction at an address of an image. Source: mos65.
use Rattle.std.specs.Prelude.{ℕ, ◌+◌, nat_lt, if◌then◌else◌, List, [], ◌∷◌, Option, Some, None, codes}
use Rattle.model.specs.Image.{cell_at}
use Rattle.model.specs.InstructionText.{TextRow, row_of}
use Rattle.model.specs.declared.instruction.Profile.{Profile}

-- What an image has at an address, nothing past $FFFF.
abbrev pub byte_at : List (Option ℕ) → ℕ → Option ℕ
byte_at image address = if nat_lt 65535 address then None else cell_at image address

-- The bytes from an address on, up to three and as far as there is no gap.
abbrev pub bytes_before : Option ℕ → List ℕ → List ℕ
bytes_before None bytes = []
bytes_before (Some b) bytes = b ∷ bytes

unfoldable pub bytes_at : List (Option ℕ) → ℕ → List ℕ
bytes_at image address = bytes_before (byte_at image address)
    (bytes_before (byte_at image (address + 1)) (bytes_before (byte_at image (address + 2)) []))

abbrev pub row_by : Profile → ℕ → List ℕ → Option TextRow
row_by profile address [] = None
row_by profile address (b ∷ bytes) = Some (row_of profile (b ∷ bytes) address)

-- The row of the instruction at an address, if there is a byte.
abbrev pub row_at : Profile → List (Option ℕ) → ℕ → Option TextRow
row_at profile image address = row_by profile address (bytes_at image address)

-- How many bytes the row shows, 1 where there is none.
abbrev pub len_by : Option TextRow → ℕ
len_by None = 1
len_by (Some row) = row.len

-- The text of the row, or `nothing`.
abbrev pub text_by : Option TextRow → List ℕ
text_by None = codes "nothing"
text_by (Some row) = row.text
