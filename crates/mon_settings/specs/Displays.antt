-- Bytes that are shown at each stop. Source: mos65.
use Rattle.std.specs.Prelude.{ℕ, nat_eq, nat_le, not, Bool, false, if◌then◌else◌, List, [], ◌∷◌, ◌++◌, length, filter, codes, slice_index, Option, Some, None}
use Rattle.std.specs.List.{flat_map, list_any}
use Rattle.model.specs.State.{State}
use Rattle.model.specs.Text.{hex_address, hex_byte}
use Rattle.source_map.specs.Names.{Named, name_at}
use Rattle.mon_instructions.specs.Places.{place_text}
use Rattle.mon_settings.specs.declared.wording.TheConstants.{DELETED, DISPLAY, DISPLAYS_FULL, NOT_DISPLAYED, NOTHING_DISPLAYED}

-- Whether an address is one of those shown.
abbrev pub is_displayed : ℕ → List ℕ → Bool
is_displayed address displays = list_any (nat_eq address) displays

-- Whether an address cannot be shown too: 16 others are.
abbrev pub is_full : ℕ → List ℕ → Bool
is_full address displays = if is_displayed address displays then false
    else nat_le 16 (length displays)

-- The addresses that are shown with one more: each once, and 16 at most.
abbrev pub with_display : ℕ → List ℕ → List ℕ
with_display address displays = if is_displayed address displays then displays
    else if nat_le 16 (length displays) then displays
    else displays ++ address ∷ []

-- The addresses without one.
abbrev pub is_other : ℕ → ℕ → Bool
is_other address at = not (nat_eq address at)

abbrev pub without_display : ℕ → List ℕ → List ℕ
without_display address displays = filter (is_other address) displays

-- ---- what is written

-- A name with a blank behind it, if there is one.
abbrev pub name_before : Option (List ℕ) → List ℕ
name_before None = []
name_before (Some name) = name ++ codes " "

-- A byte behind a blank, with its name and its address: ` count 0020=03`.
abbrev pub displayed_byte : List Named → State → ℕ → List ℕ
displayed_byte names state address = codes " " ++ (name_before (name_at names address)
    ++ (hex_address address ++ (codes "=" ++ hex_byte (slice_index state.bus.memory address))))

-- The line of the bytes that are shown, if some are.
abbrev pub displays_text : List Named → State → List ℕ → List ℕ
displays_text names state [] = []
displays_text names state (a ∷ displays) = DISPLAY.now
    ++ (flat_map (displayed_byte names state) (a ∷ displays) ++ codes "\n")

-- What `display` alone says.
abbrev pub all_displays_text : List Named → State → List ℕ → List ℕ
all_displays_text names state [] = NOTHING_DISPLAYED.now
all_displays_text names state (a ∷ displays) = displays_text names state (a ∷ displays)

-- What is said once an address is to be shown.
abbrev pub display_set_text : List Named → State → ℕ → List ℕ → List ℕ
display_set_text names state address displays = if is_full address displays
    then DISPLAYS_FULL.now else displays_text names state (with_display address displays)

-- What is said once an address is not shown, or where it was not.
abbrev pub undisplayed_text : List Named → ℕ → Bool → List ℕ
undisplayed_text names address stood = if stood
    then DELETED.now ++ (place_text names address ++ codes "\n")
    else place_text names address ++ NOT_DISPLAYED.now
