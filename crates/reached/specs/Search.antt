-- A search as it goes: which addresses are flagged, and these in the order in which they were found.
use Rattle.std.specs.Prelude.{◌≡◌, ℕ, suc, ◌+◌, ◌<◌, ◌≤◌, Bool, true, false, if◌then◌else◌, List, [], ◌∷◌, ◌++◌, length, Option, Some, None, slice_index, slice_set}
use Rattle.source_forms.specs.Pieces.{is_flagged}
use Rattle.model.specs.declared.instruction.Profile.{Profile}
use Rattle.source_forms.specs.declared.mark.Mark.{Mark}
use Rattle.reached.specs.Reached.{IsAmong, LeadTo, Reaches, ways_at}
use Rattle.reached.specs.declared.inline.Inline.{Inline}
use Rattle.reached.specs.declared.search.Search.{Search}

pub record Seen : Type 0 where
  pub flags : List Bool
  pub found : List ℕ

abbrev pub seen_of : Search → Seen
seen_of s = record { flags = s.flags.items; found = s.found.items }

-- With one address more, if it is there and was not found before.
abbrev pub with_address : Seen → Option ℕ → Seen
with_address s None = s
with_address s (Some a) = if is_flagged s.flags a then s
    else record { flags = slice_set s.flags a true; found = s.found ++ a ∷ [] }

-- How many flags are not set.
abbrev pub unset : List Bool → ℕ
unset [] = 0
unset (true ∷ flags) = unset flags
unset (false ∷ flags) = suc (unset flags)

-- So many flags, and none of them is set.
pub record AreUnset (n : ℕ) (flags : List Bool) : Type 0 where
  pub size : length flags ≡ n
  pub count : unset flags ≡ n
  pub each : (a : ℕ) → is_flagged flags a ≡ false

-- Where a search stands, when so many of the starts were found, and where control goes from so many
-- of the addresses that were found: each flagged address is among these and is reached, and each of
-- these is flagged.
pub record IsSearch (profile : Profile) (image : List (Option ℕ)) (marks : List Mark)
    (routines : List Inline) (starts : List ℕ) (begun done : ℕ) (s : Seen) : Type 0 where
  pub size : length s.flags ≡ 65536
  pub count : unset s.flags + length s.found ≡ 65536
  pub within : done ≤ length s.found
  pub reaches : (a : ℕ) → is_flagged s.flags a ≡ true
      → (n : ℕ) × Reaches profile image marks routines starts n a
  pub among : (a : ℕ) → is_flagged s.flags a ≡ true → IsAmong s.found a
  pub flagged : (i : ℕ) → i < length s.found → is_flagged s.flags (slice_index s.found i) ≡ true
  pub starts_in : (i : ℕ) → i < begun → is_flagged s.flags (slice_index starts i) ≡ true
  pub closed : (i a : ℕ) → i < done
      → LeadTo (ways_at profile image marks routines (slice_index s.found i)) a
      → is_flagged s.flags a ≡ true
