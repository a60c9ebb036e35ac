-- Why a run ends in a state, seen from the change of the step that led there.
use Rattle.std.specs.Prelude.{ℕ, List, Option}
use Rattle.std.specs.Option.{option_or}
use Rattle.model.specs.State.{State}
use Rattle.model.specs.Undo.{bus_before}
use Rattle.model.specs.declared.undo.Change.{Change}
use Rattle.model.specs.Run.{watch_met, break_met}
use Rattle.model.specs.declared.run_end.Why.{Why}

-- a state with the bus that a change gives back
abbrev pub before_of : Change → State → State
before_of change state = record state { bus = bus_before change state.bus }

unfoldable pub stop_after : List ℕ → List ℕ → Change → State → Option Why
stop_after watches breaks change state
    = option_or (watch_met watches (before_of change state) state) (break_met breaks state state)
