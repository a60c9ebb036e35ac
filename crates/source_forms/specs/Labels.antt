-- Which addresses get a label, and the source with labels that is written of an image. Source:
-- mos65; the lines are those of a source.
use Rattle.std.specs.Prelude.{ℕ, zero, suc, ◌+◌, ◌-◌, Bool, true, false, ◌||◌, ◌&&◌, nat_lt, List, [], ◌∷◌, ◌++◌, Option, Some, None, replicate, slice_set}
use Rattle.std.specs.List.{flat_map}
use Rattle.model.specs.declared.instruction.Profile.{Profile}
use Rattle.model.specs.Image.{cell_at}
use Rattle.model.specs.Layout.{most_names}
use Rattle.source_forms.specs.declared.mark.Mark.{Mark}
use Rattle.source_forms.specs.Rows.{opened, by_cell, ended}
use Rattle.source_forms.specs.Pieces.{Piece, piece_at, len_of, reach_of, refers, is_flagged, label_text, text_of}

-- ---- what is referred to

abbrev pub with_flag : List Bool → Option ℕ → List Bool
with_flag flags None = flags
with_flag flags (Some w) = slice_set flags w true

-- The addresses that the pieces of an image refer to, from an address on, by at most so many
-- steps, beside those that are flagged already.
unfoldable pub flags_from : Profile → List (Option ℕ) → List Mark → ℕ → ℕ → List Bool → List Bool
flags_from profile image marks zero address flags = flags
flags_from profile image marks (suc n) address flags =
    by_cell (cell_at image address)
    (flags_from profile image marks n (address + 1) flags)
    (λ b. flags_from profile image marks n
    (address + len_of (piece_at profile image marks [] address b))
    (with_flag flags (refers address (piece_at profile image marks [] address b))))

-- No address is flagged. The word hides its size, so that no proof computes it.
unfoldable pub no_flags : List Bool
no_flags = replicate 65536 false

unfoldable pub flags_of : Profile → List (Option ℕ) → List Mark → List Bool
flags_of profile image marks = flags_from profile image marks 65536 0 no_flags

-- ---- labels

-- Whether one of so many addresses from an address on is referred to.
unfoldable pub flagged_within : List Bool → ℕ → ℕ → Bool
flagged_within flags zero address = false
flagged_within flags (suc n) address
    = is_flagged flags address || flagged_within flags n (address + 1)

-- Whether a piece gets a label: it is referred to, and there are names left.
abbrev pub is_named : List Bool → ℕ → ℕ → Piece → Bool
is_named flags left address piece
    = nat_lt 0 left && flagged_within flags (reach_of piece) address

-- How many names are left after a piece.
abbrev pub left_after : Bool → ℕ → ℕ
left_after true left = left - 1
left_after false left = left

abbrev pub with_reach : Bool → List ℕ → ℕ → ℕ → List ℕ
with_reach true table address reach = slice_set table address reach
with_reach false table address reach = table

-- How far the label of each address reaches, from an address on.
unfoldable pub table_from : Profile → List (Option ℕ) → List Mark → List Bool → ℕ → ℕ → ℕ
    → List ℕ → List ℕ
table_from profile image marks flags zero left address table = table
table_from profile image marks flags (suc n) left address table =
    by_cell (cell_at image address)
    (table_from profile image marks flags n left (address + 1) table)
    (λ b. let piece = piece_at profile image marks flags address b in
    let named = is_named flags left address piece in
    table_from profile image marks flags n (left_after named left) (address + len_of piece)
    (with_reach named table address (reach_of piece)))

-- No address has a label.
unfoldable pub no_labels : List ℕ
no_labels = replicate 65536 0

unfoldable pub table_of : Profile → List (Option ℕ) → List Mark → List Bool → List ℕ
table_of profile image marks flags
    = table_from profile image marks flags 65536 most_names 0 no_labels

-- ---- lines

abbrev pub label_line : ℕ → List ℕ
label_line address = label_text address ++ 58 ∷ []

-- The label before a piece, if it gets one.
abbrev pub labelled : Bool → ℕ → List (List ℕ)
labelled true address = label_line address ∷ []
labelled false address = []

-- The lines of an image from an address on, by at most so many steps; how many names are left, and
-- whether a line ends at the address.
unfoldable pub labelled_lines : Profile → List (Option ℕ) → List Mark → List Bool → List ℕ
    → ℕ → ℕ → ℕ → Bool → List (List ℕ)
labelled_lines profile image marks flags table zero left address ends = []
labelled_lines profile image marks flags table (suc n) left address ends =
    by_cell (cell_at image address)
    (labelled_lines profile image marks flags table n left (address + 1) false)
    (λ b. let piece = piece_at profile image marks flags address b in
    let named = is_named flags left address piece in
    opened ends address ++ (labelled named address ++ text_of profile table address piece
    ∷ labelled_lines profile image marks flags table n (left_after named left)
    (address + len_of piece) true))

-- The source of an image with labels at the pieces that are flagged.
unfoldable pub flagged_source : Profile → List (Option ℕ) → List Mark → List Bool → List ℕ
flagged_source profile image marks flags = flat_map ended
    (labelled_lines profile image marks flags (table_of profile image marks flags) 65536 most_names
    0 false)

-- The source of an image with labels where it refers to itself.
unfoldable pub labelled_source : Profile → List (Option ℕ) → List Mark → List ℕ
labelled_source profile image marks
    = flagged_source profile image marks (flags_of profile image marks)
