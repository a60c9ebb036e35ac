-- The lines that have placed what stands: breaks, watches, and bytes that are shown at each stop.
-- Source: mos65.
use Rattle.std.specs.Prelude.{ℕ, ◌==◌, not, Bool, false, List, [], ◌∷◌, ◌++◌, filter, Option, None, Some, Result, Ok, Err}
use Rattle.std.specs.List.{list_any}
use Rattle.word_mon.specs.declared.notes.Placed.{Placed}
use Rattle.word_mon.specs.declared.notes.Placed.TheVariants as placing
use Rattle.mon_lines.specs.Lines.{SeenCommand, SeenSlip, break_at, command_view, display, watch, watch_register}
use Rattle.mon_lines.specs.declared.command.Command.{Command}
use Rattle.mon_session.specs.declared.mon_state.MonState.{MonState}
use Rattle.mon_settings.specs.Displays.{is_displayed}
use Rattle.mon_runs.specs.Stops.{has, is_at, is_of}

-- A line that has placed something, and what `PC` was in it.
pub record SeenNote : Type 0 where
  pub line : List ℕ
  pub pc : ℕ
  pub placed : Placed

abbrev pub note_of : Placed → ℕ → List ℕ → SeenNote
note_of placed pc line = record { line = line; pc = pc; placed = placed }

-- ---- what a line places

-- A watch by its first address. `display` alone places nothing.
abbrev pub placed_shown : Option ℕ → Option Placed
placed_shown None = None
placed_shown (Some address) = Some (placing.Display address)

abbrev pub placed_seen : SeenCommand → Option Placed
placed_seen (break_at address line tests times) = Some (placing.Break address)
placed_seen (watch stretch kind) = Some (placing.Watch stretch.first)
placed_seen (watch_register register) = Some (placing.Register register)
placed_seen (display place) = placed_shown place
placed_seen command = None

abbrev pub placed_by : Command → Option Placed
placed_by command = placed_seen (command_view command)

abbrev pub placed_in : Result SeenCommand SeenSlip → Option Placed
placed_in (Ok command) = placed_seen command
placed_in (Err slip) = None

-- ---- what is noted

-- Whether something stands where it was placed.
abbrev pub stands : MonState → Placed → Bool
stands mon (placing.Break address) = list_any (is_at address) mon.stops.breaks.items
stands mon (placing.Watch address) = list_any (λ w. has w address) mon.stops.watches.items
stands mon (placing.Register register) = list_any (is_of register) mon.stops.watches.items
stands mon (placing.Display address) = is_displayed address mon.displays.items

-- A break takes the place of one at its address, and a display that of one.
abbrev pub replaces : Placed → Placed → Bool
replaces (placing.Break address) (placing.Break other) = address == other
replaces (placing.Display address) (placing.Display other) = address == other
replaces placed other = false

abbrev pub with_note : Option Placed → ℕ → List ℕ → List SeenNote → List SeenNote
with_note None pc line notes = notes
with_note (Some placed) pc line notes
    = filter (λ n. not (replaces placed n.placed)) notes ++ note_of placed pc line ∷ []

-- A line is noted as long as what it has placed stands.
abbrev pub notes_after : MonState → Option Placed → ℕ → List ℕ → List SeenNote → List SeenNote
notes_after mon placed pc line notes
    = filter (λ n. stands mon n.placed) (with_note placed pc line notes)
