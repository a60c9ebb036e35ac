-- Turns that are made many at a time.
use Rattle.std.specs.Prelude.{◌≡◌, ℕ, ◌-◌, ◌<◌, ◌≤◌, ◌==◌, Bool, true, false, if◌then◌else◌, length, List, Option, Some, None, slice_index}
use Rattle.accesses.specs.Writing.{is_written}
use Rattle.model.specs.Session.{Session}
use Rattle.console.specs.Playing.{Outcome, Play, is_at, later, played}
use Rattle.console.specs.Turns.{Known, play_at}
use Rattle.console.specs.declared.ending.Ending.TheVariants.{Until}

-- A run that has come somewhere by a step: it ends at the address, if one is given, and otherwise
-- goes on with at most so many steps.
abbrev pub going : Option ℕ → ℕ → Play → Outcome
going until n p = if is_at until p.session.current
    then record { steps = 0; ending = Until; play = p }
    else played until n p

-- So many turns lead from one place to another. None of them asks for a line or ends the run, and
-- none but the last leads to the address.
abbrev pub Glides : Option ℕ → ℕ → Session → Known → Session → Known → Type 0
Glides until steps s k t after = (limit : ℕ) (input : List ℕ) → steps ≤ limit
    → going until limit (play_at s k input)
    ≡ later steps (going until (limit - steps) (play_at t after input))

abbrev pub is_place : Option ℕ → ℕ → Bool
is_place None address = false
is_place (Some place) address = address == place

-- A mark of 0 says that a byte was written at its address, and that the address is not a place.
abbrev pub Bound : List ℕ → List Bool → Option ℕ → Type 0
Bound marks written place = (length written ≡ 65536) × ((address : ℕ) → address < length written
    → slice_index marks address ≡ 0
    → (is_written written address ≡ true) × (is_place place address ≡ false))
