-- A line of input. Source: mos65.
use Rattle.std.specs.Prelude.{ℕ, zero, suc, ◌-◌, ◌==◌, if◌then◌else◌, List, [], ◌∷◌, length}
use Rattle.model.specs.State.{State, console_size}

-- The first line of an input with its LF, or as much of it as there is room for. The last line needs
-- no LF.
unfoldable pub line_at : ℕ → List ℕ → List ℕ
line_at zero input = []
line_at (suc room) [] = []
line_at (suc room) (b ∷ rest) = if b == 10 then b ∷ [] else b ∷ line_at room rest

-- How many more bytes of input may be handed in.
abbrev pub room_of : State → ℕ
room_of state = console_size - length state.bus.given
