-- The bytes of two images that differ, and those that differ in one line alone. Source: mos65.
use Rattle.std.specs.Prelude.{ℕ, zero, suc, ◌==◌, nat_lt, Bool, if◌then◌else◌, List, [], ◌∷◌, ◌++◌, bit_xor, filter_map, Option, Some, None}
use Rattle.model.specs.Image.{cell_at}
use Rattle.dump_faults.specs.declared.changes.Change.{Change}
use Rattle.dump_faults.specs.declared.changes.Flip.{Flip}

-- Both bytes at an address, where both images have one and these differ.
abbrev pub change_of : Option ℕ → Option ℕ → List Change
change_of (Some a) (Some b) = if a == b then [] else record { one = a; other = b } ∷ []
change_of one other = []

-- The same of all addresses below a bound, in rising order.
unfoldable pub changes_below : List (Option ℕ) → List (Option ℕ) → ℕ → List Change
changes_below one other zero = []
changes_below one other (suc n) = changes_below one other n
    ++ change_of (cell_at one n) (cell_at other n)

-- All of them.
abbrev pub changes_of : List (Option ℕ) → List (Option ℕ) → List Change
changes_of one other = changes_below one other 65536

-- The line that is alone at 1 in a byte, if one is.
unfoldable pub lone_line : ℕ → Option ℕ
lone_line byte = if byte == 1 then Some 0 else if byte == 2 then Some 1
    else if byte == 4 then Some 2 else if byte == 8 then Some 3
    else if byte == 16 then Some 4 else if byte == 32 then Some 5
    else if byte == 64 then Some 6 else if byte == 128 then Some 7 else None

-- The line in which alone two bytes differ, with its value in the first of them: that is 1 where
-- the first is greater.
abbrev pub flip_at : Option ℕ → Bool → Option Flip
flip_at None was = None
flip_at (Some line) was = Some (record { line = line; was = was })

abbrev pub flip_of : Change → Option Flip
flip_of change = flip_at (lone_line (bit_xor change.one change.other))
    (nat_lt change.other change.one)

-- The changes of one line alone.
unfoldable pub flips_of : List Change → List Flip
flips_of changes = filter_map flip_of changes
