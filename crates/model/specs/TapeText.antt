-- The text that is written for an image.
use Rattle.std.specs.Prelude.{ℕ, ◌+◌, ◌*◌, ◌/◌, ◌%◌, ◌==◌, if◌then◌else◌, List, [], ◌∷◌, ◌++◌, length, map, sum, take, drop, Option, None, Some}
use Rattle.std.specs.List.{flat_map, range_with_len}
use Rattle.hex.specs.Hex.{encode_upper}

-- Bytes from an address on.
abbrev pub Stretch : Type 0
Stretch = ℕ × List ℕ

-- A byte at an address, before the runs after it: it begins the first of them if that begins right
-- after it; otherwise it is a run of its own. Source: mos65.
abbrev pub before_runs : ℕ → ℕ → List Stretch → List Stretch
before_runs address b [] = (address, b ∷ []) ∷ []
before_runs address b (run ∷ rest) = if run.0 == address + 1 then (address, b ∷ run.1) ∷ rest
    else (address, b ∷ []) ∷ run ∷ rest

-- The maximal runs of bytes in rising order, where the cells begin at an address. Source: mos65.
abbrev pub runs : ℕ → List (Option ℕ) → List Stretch
runs address [] = []
runs address (None ∷ cells) = runs (address + 1) cells
runs address (Some b ∷ cells) = before_runs address b (runs (address + 1) cells)

-- Piece k of a run, counted from 0: 24 of its bytes, or as many as are left. Source: mos65.
abbrev pub piece_of_run : Stretch → ℕ → Stretch
piece_of_run run k = (run.0 + 24 * k, take 24 (drop (24 * k) run.1))

-- A run cut from its start into pieces of 24 bytes and a rest. Source: mos65.
abbrev pub pieces_of_run : Stretch → List Stretch
pieces_of_run run = map (λ k. piece_of_run run k) (range_with_len 0 ((length run.1 + 23) / 24))

-- The pieces in which an image is written. Source: mos65.
abbrev pub written_pieces : List (Option ℕ) → List Stretch
written_pieces cells = flat_map pieces_of_run (runs 0 cells)

-- A number as two bytes, the high one first. Source: KIM-1 manual.
abbrev pub word : ℕ → List ℕ
word n = n / 256 ∷ n % 256 ∷ []

-- A record's bytes with their sum after them. Source: KIM-1 manual.
abbrev pub with_sum : List ℕ → List ℕ
with_sum bytes = bytes ++ word (sum bytes % 65536)

-- A record in capital hex digits after `;`, then CR LF. Source: KIM-1 manual; mos65 for capitals
-- and the line's end.
abbrev pub line : List ℕ → List ℕ
line bytes = 59 ∷ encode_upper (with_sum bytes) ++ 13 ∷ 10 ∷ []

-- The data record of a piece: its length, its address, its bytes. Source: KIM-1 manual.
abbrev pub data_line : Stretch → List ℕ
data_line piece = line (length piece.1 ∷ word piece.0 ++ piece.1)

-- The end record after so many data records: length 0, then their number. Source: KIM-1 manual.
abbrev pub end_line : ℕ → List ℕ
end_line count = line (0 ∷ word count)

-- The written text of an image: a data record for each piece, then the end record. Source: mos65.
abbrev pub tape_text : List (Option ℕ) → List ℕ
tape_text cells
    = flat_map data_line (written_pieces cells) ++ end_line (length (written_pieces cells))
