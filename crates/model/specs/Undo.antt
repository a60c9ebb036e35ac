-- What a record of old bytes, lengths and registers restores. Source: mos65.
use Rattle.std.specs.Prelude.{◌≡◌, ℕ, ◌≤◌, Bool, true, not, List, [], ◌∷◌, length, take, slice_set}
use Rattle.std.specs.List.{list_all}
use Rattle.model.specs.State.{Bus, State, is_port}
use Rattle.model.specs.declared.undo.Change.{Change}
use Rattle.model.specs.declared.undo.Undo.{Undo}

-- Bytes put into a memory, in their order.
abbrev pub put_cells : List (ℕ × ℕ) → List ℕ → List ℕ
put_cells [] memory = memory
put_cells (cell ∷ cells) memory = put_cells cells (slice_set memory cell.0 cell.1)

-- The cells that are in use.
abbrev pub cells_of : Change → List (ℕ × ℕ)
cells_of change = take change.count change.cells

-- A bus with the old bytes put back, both lists of the console cut to their old lengths, the old
-- number of bytes taken, and the old control byte.
unfoldable pub bus_before : Change → Bus → Bus
bus_before change bus = record bus {
  memory = put_cells (cells_of change) bus.memory;
  given = take change.given_len bus.given;
  taken = change.taken;
  out = take change.out_len bus.out;
  control = change.control;
}

-- No cell in use is at a port address.
unfoldable pub spares_port : Change → Bus → Bool
spares_port change bus = list_all (λ cell. not (is_port bus.map cell.0)) (cells_of change)

-- A change can be put back: both lists are long enough, no cell is at the port, at most three are
-- in use.
pub record CanRestore (change : Change) (bus : Bus) : Type 0 where
  pub given : change.given_len ≤ length bus.given
  pub out : change.out_len ≤ length bus.out
  pub taken : change.taken ≤ change.given_len
  pub count : change.count ≤ 3
  pub port : spares_port change bus ≡ true

-- The state that an undo record leads back to.
unfoldable pub state_before : Undo → State → State
state_before undo state = record {
  bus = bus_before undo.change state.bus;
  regs = undo.regs;
  irq = undo.irq;
  nmi = undo.nmi;
  cycles = undo.cycles;
}

-- A record leads from the state after an event back to the state before it.
pub record Undoes (undo : Undo) (before after : State) : Type 0 where
  pub fits : CanRestore undo.change after.bus
  pub back : state_before undo after ≡ before
