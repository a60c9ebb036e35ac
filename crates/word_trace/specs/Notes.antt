-- The addresses that a step is about to touch, and those where it has left a byte. Source: mos65.
use Rattle.std.specs.Prelude.{◌≡◌, ℕ, ◌+◌, ◌%◌, ◌==◌, ◌&&◌, Bool, true, false, not, if◌then◌else◌, List, [], ◌∷◌, Option, None, Some, take}
use Rattle.arguments.specs.Asked.{FileAsked}
use Rattle.model.specs.State.{Map, State, is_port, lies_in}
use Rattle.model.specs.declared.instruction.Row.{Row}
use Rattle.accesses.specs.Footprint.{reads_here, stores_here}
use Rattle.accesses.specs.Moments.{moment_of, stored_by}
use Rattle.accesses.specs.Writing.{is_written}
use Rattle.accesses.specs.declared.moment.Moment.{Moment}
use Rattle.word_trace.specs.declared.notes.Ahead.{Ahead}

-- Addresses that are left out unless they are asked for.
abbrev pub if_asked : Bool → List ℕ → List ℕ
if_asked true addresses = addresses
if_asked false addresses = []

-- An opcode that is not documented stands alone.
abbrev pub len_of : Option Row → ℕ
len_of None = 1
len_of (Some row) = row.len

-- The bytes of the instruction of a moment, three at most.
abbrev pub code_of : Moment → List ℕ
code_of moment = take (len_of moment.row) (moment.regs.pc ∷ (moment.regs.pc + 1) % 65536
    ∷ (moment.regs.pc + 2) % 65536 ∷ [])

-- The vector of an IRQ.
abbrev pub entry_reads : List ℕ
entry_reads = 0xFFFE ∷ 0xFFFF ∷ []

-- A store leaves a byte outside the ROM, and of the port's addresses at the first alone.
abbrev pub is_kept : Map → Option (ℕ × ℕ) → ℕ → ℕ → Bool
is_kept map rom port address
    = if is_port map address then address == port else not (lies_in rom address)

unfoldable pub kept : Map → Option (ℕ × ℕ) → ℕ → List ℕ → List ℕ
kept map rom port [] = []
kept map rom port (address ∷ addresses) = if is_kept map rom port address
    then address ∷ kept map rom port addresses else kept map rom port addresses

-- Where a step has left a byte.
abbrev pub left_at : State → FileAsked → Bool → Ahead → List ℕ
left_at state file is_entry ahead = kept state.bus.map file.rom file.port
    (stored_by is_entry ahead.moment.regs.s ahead.stores.items)

-- Whether a byte was put at each of these addresses.
unfoldable pub are_written : List Bool → List ℕ → Bool
are_written cells [] = true
are_written cells (address ∷ addresses) = is_written cells address && are_written cells addresses

-- All that the instruction at PC touches was written: its own bytes, what it reads as data, and
-- where it stores.
pub record TouchesWritten (cells : List Bool) (state : State) : Type 0 where
  pub code : are_written cells (code_of (moment_of state)) ≡ true
  pub reads : are_written cells (reads_here state) ≡ true
  pub stores : are_written cells (stores_here state) ≡ true
