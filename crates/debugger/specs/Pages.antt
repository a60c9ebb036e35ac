-- What stamps of pages tell of checkpoints.
use Rattle.std.specs.Prelude.{◌≡◌, ℕ, ◌+◌, ◌-◌, ◌≤◌, List, length, slice_get, Some}
use Rattle.model.specs.Checkpoint.{Checkpoint}
use Rattle.bus.specs.Pages.{AreSameBelow}
use Rattle.circular_buffer.specs.Buffer.{last_item}
use Rattle.debugger.specs.declared.pages.Pages.{Pages}

-- the number of one of so many checkpoints in use: the last has the current one, and the others
-- count up to it
abbrev pub number_at : ℕ → ℕ → ℕ → ℕ
number_at now count i = now + i + 1 - count

-- each checkpoint is the same as memory in pages with a stamp below its number: those in use, and
-- the last one that is not
pub record TellsPages (p : Pages) (used unused : List Checkpoint) (memory : List ℕ) : Type 0 where
  pub within : p.spare ≤ p.now
  pub kept : (i : ℕ) → (c : Checkpoint) → slice_get used i ≡ Some c
      → AreSameBelow (number_at p.now (length used) i) p.stamps c.bus.memory memory
  pub spare : (c : Checkpoint) → last_item unused ≡ Some c
      → AreSameBelow p.spare p.stamps c.bus.memory memory
