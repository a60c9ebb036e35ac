-- Runs of one number, and the note of one. Source: mos65.
use Rattle.std.specs.Prelude.{ℕ, zero, suc, ◌+◌, ◌-◌, ◌==◌, ◌&&◌, Bool, false, not, nat_le, if◌then◌else◌, List, [], ◌++◌, length, codes, decimal, Option, slice_index}
use Rattle.model.specs.Image.{cell_at}
use Rattle.model.specs.InstructionText.{byte_text}
use Rattle.source_forms.specs.declared.mark.Mark.{Mark}
use Rattle.source_forms.specs.declared.mark.Mark.TheVariants.{Data}
use Rattle.source_forms.specs.Rows.{by_cell, is_kind, kind_of, mark_at}

-- Whether an address has this byte, written as a number.
abbrev pub is_number : List (Option ℕ) → List Mark → ℕ → ℕ → Bool
is_number image marks b address = by_cell (cell_at image address) false
    (λ c. is_kind Data (kind_of (mark_at marks address) c) && (c == b))

-- How many addresses in a row have this number, from an address on, at most so many.
unfoldable pub run_length : List (Option ℕ) → List Mark → ℕ → ℕ → ℕ → ℕ
run_length image marks b zero address = 0
run_length image marks b (suc n) address = if is_number image marks b address
    then suc (run_length image marks b n (address + 1)) else 0

-- Whether the eight addresses before one have this number, so that the run was noted before.
abbrev pub goes_on : List (Option ℕ) → List Mark → ℕ → ℕ → Bool
goes_on image marks b address = nat_le 8 address
    && (run_length image marks b 8 (address - 8) == 8)

abbrev pub count_note : ℕ → ℕ → List ℕ
count_note b n = if nat_le 16 n
    then codes " ; " ++ (decimal n ++ (codes " bytes " ++ byte_text b)) else []

-- What stands behind the first whole line of a run of at least 16 numbers: how many there are from
-- here on, and which.
unfoldable pub run_note : List (Option ℕ) → List Mark → ℕ → List ℕ → List ℕ
run_note image marks address bytes = let b = slice_index bytes 0 in
    if (length bytes == 8) && not (goes_on image marks b address)
    then count_note b (run_length image marks b 65536 address) else []
