-- Breakpoints of a state of `mon` set and cleared. Source: Debug Adapter Protocol 1.65; mos65.
use Rattle.std.specs.Prelude.{ℕ, ◌≡◌, List, [], ◌∷◌}
use Rattle.dap_messages.specs.declared.listed.Placed.{Placed}
use Rattle.mon_runs.specs.Goals.{without_break}
use Rattle.mon_runs.specs.Looked.{Place}
use Rattle.mon_session.specs.declared.mon_state.MonState.{MonState}
pub use Rattle.mon_runs.specs.Breaks.{all_set, set_at}
use Rattle.mon_runs.specs.Stops.{without}

-- The session, which has the addresses, and the breaks with their tests.
abbrev pub place_of : MonState → Place
place_of mon = (mon.session, mon.stops.breaks.items)

-- Events, watches, names, lines and the text are what they were.
abbrev pub KeepsEvents : MonState → MonState → Type 0
KeepsEvents old new = (new.events ≡ old.events) × (new.stops.watches ≡ old.stops.watches)
    × (new.stops.changes ≡ old.stops.changes) × (new.places ≡ old.places)
    × (new.displays ≡ old.displays) × (new.text ≡ old.text)

-- The breakpoint at an address is cleared, if there is one.
abbrev pub cleared_at : ℕ → Place → Place
cleared_at address place = (without_break address place.0, without address place.1)

abbrev pub all_cleared : List Placed → Place → Place
all_cleared [] place = place
all_cleared (placed ∷ rest) place = all_cleared rest (cleared_at placed.address place)
