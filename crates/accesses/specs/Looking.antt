-- Where a program looks for input, before a step. Source: mos65.
use Rattle.std.specs.Prelude.{ℕ, ◌+◌, ◌==◌, ◌||◌, Bool, false, Option, Some, None}
use Rattle.model.specs.State.{Map, State}
use Rattle.cpu_step.specs.Access.{access_here}

-- Base+1 gives a byte of input, and base+2 says whether one waits.
abbrev pub is_input_address : Map → Option ℕ → Bool
is_input_address map None = false
is_input_address map (Some address) = (address == map.port + 1) || (address == map.port + 2)

-- A program looks for input by an instruction that reads base+1 or base+2.
unfoldable pub looks : State → Bool
looks state = is_input_address state.bus.map (access_here state).read
