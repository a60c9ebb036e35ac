-- Memory as text: rows of an address, the bytes of an instruction and its text. Source: mos65.
use Rattle.std.specs.Prelude.{ℕ, zero, suc, ◌+◌, nat_le, if◌then◌else◌, List, [], ◌∷◌, ◌++◌, take, drop}
use Rattle.model.specs.declared.instruction.Profile.{Profile}
use Rattle.model.specs.Text.{hex_address}
use Rattle.model.specs.InstructionText.{TextRow, row_of}
use Rattle.model.specs.Listing.{with_padding, with_spaces}

-- The address of a row, its bytes in 8 columns and its text, with two spaces between them.
unfoldable pub row_line : ℕ → List ℕ → TextRow → List ℕ
row_line address bytes row =
    hex_address address
    ++ 32 ∷ 32 ∷ (with_padding (with_spaces (take row.len bytes)) ++ 32 ∷ 32 ∷ (row.text ++ 10 ∷ []))

-- The bytes from an address on that an instruction can have: three, or those up to $FFFF.
abbrev pub bytes_from : List ℕ → ℕ → List ℕ
bytes_from memory address = take 3 (drop address memory)

-- The row of memory at an address.
abbrev pub row_in : Profile → List ℕ → ℕ → TextRow
row_in profile memory address = row_of profile (bytes_from memory address) address

-- Rows from an address on, each after the one before it: at most so many, and none that begins past
-- a last address.
unfoldable pub rows_in : Profile → List ℕ → ℕ → ℕ → ℕ → List ℕ
rows_in profile memory last address zero = []
rows_in profile memory last address (suc n) =
    if nat_le address last
    then row_line address (bytes_from memory address) (row_in profile memory address)
    ++ rows_in profile memory last (address + (row_in profile memory address).len) n
    else []
