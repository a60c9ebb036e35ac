-- The names that a source gives to addresses. Source: mos65.
use Rattle.std.specs.Prelude.{◌≡◌, ℕ, ◌+◌, ◌<◌, ◌==◌, ◌&&◌, ◌||◌, nat_lt, not, ℤ, pos, negsuc, Bool, false, is_some, List, [], ◌∷◌, length, find, take, slice_index, if◌then◌else◌, Option}
use Rattle.std.specs.List.{position_from}
use Rattle.std.specs.Option.{option_map, option_map_or}
use Rattle.model.specs.Names.{Definitions}

-- ---- the name of an address

-- Whether a name has the form of a label that is made of an address: `L_` and four more bytes.
abbrev pub is_made : List ℕ → Bool
is_made (a ∷ b ∷ c ∷ d ∷ e ∷ f ∷ []) = (a == 76) && (b == 95)
is_made name = false

-- Whether a number is an address.
abbrev pub is_at : ℕ → ℤ → Bool
is_at address (pos n) = n == address
is_at address (negsuc n) = false

-- Whether a definition gives an address its name.
abbrev pub gives_name : ℕ → List ℕ × ℤ → Bool
gives_name address d = is_at address d.1 && not (is_made d.0)

-- The definitions that are looked at. A source has at most 8,192, and so they are all.
unfoldable pub looked_at : Definitions → Definitions
looked_at names = take 65535 names

-- The name of an address: the first that is defined with its number, but none that is made of an
-- address.
unfoldable pub name_of : Definitions → ℕ → Option (List ℕ)
name_of names address = option_map (λ d. d.0) (find (gives_name address) (looked_at names))

-- ---- the table

-- One more than the index of the definition that gives an address its name; 0 where none does.
unfoldable pub index_of : Definitions → ℕ → ℕ
index_of names address
    = option_map_or (λ i. i + 1) (position_from (gives_name address) 0 (looked_at names)) 0

-- An address's cell of the table after a definition of an index: the first that gives it its name
-- stays.
abbrev pub noted : ℕ → List ℕ × ℤ → ℕ → ℕ → ℕ
noted index d address cell
    = if (cell == 0) && nat_lt index 65535 && gives_name address d then index + 1 else cell

-- A table of these for all addresses.
pub record IsTable (names : Definitions) (table : List ℕ) : Type 0 where
  pub size : length table ≡ 65536
  pub each : (address : ℕ) → address < 65536 → slice_index table address ≡ index_of names address

-- ---- flags

-- Flags, of which those are set too that have a name by a table.
unfoldable pub flagged_by : List ℕ → List Bool → List Bool
flagged_by table [] = []
flagged_by [] (flag ∷ flags) = flag ∷ flags
flagged_by (index ∷ table) (flag ∷ flags) = (flag || nat_lt 0 index) ∷ flagged_by table flags

-- The same by the names: flags from an address on.
unfoldable pub with_named : Definitions → ℕ → List Bool → List Bool
with_named names address [] = []
with_named names address (flag ∷ flags)
    = (flag || is_some (name_of names address)) ∷ with_named names (address + 1) flags
