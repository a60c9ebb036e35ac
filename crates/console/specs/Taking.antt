-- What a step takes of the input that waits.
use Rattle.std.specs.Prelude.{◌≡◌, ℕ, ◌+◌, ◌==◌, ◌&&◌, if◌then◌else◌, Option, Some, None, length}
use Rattle.model.specs.State.{Bus, State, input_waits}

-- How many bytes of input a bus read takes: one, if it reads base+1 and input waits.
abbrev pub take_count : Option ℕ → Bus → ℕ
take_count None bus = 0
take_count (Some address) bus = if (address == bus.map.port + 1) && input_waits bus then 1 else 0

-- A count, if the stack pointer is what it was.
abbrev pub counted : ℕ → ℕ → ℕ → ℕ
counted before after count = if before == after then count else 0

-- So many bytes of input wait.
abbrev pub Waits : State → ℕ → Type 0
Waits state count = state.bus.taken + count ≡ length state.bus.given
