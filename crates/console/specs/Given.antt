-- A state after bytes of input.
use Rattle.std.specs.Prelude.{ℕ, List, ◌++◌}
use Rattle.model.specs.State.{State}

-- The state with more bytes handed in.
abbrev pub given_to : State → List ℕ → State
given_to state bytes = record state { bus = record state.bus { given = state.bus.given ++ bytes } }
