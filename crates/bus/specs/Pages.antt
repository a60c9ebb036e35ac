-- Pages of 256 bytes of memory, each with a stamp: the number that was current when a byte of the
-- page last changed.
use Rattle.std.specs.Prelude.{◌≡◌, ◌≢◌, ℕ, ◌<◌, ◌≤◌, ◌/◌, List, length, slice_index, slice_index_or}
use Rattle.model.specs.State.{Bus}

-- Two memories are the same in each page whose stamp is below a number.
abbrev pub AreSameBelow : ℕ → List ℕ → List ℕ → List ℕ → Type 0
AreSameBelow since stamps xs ys = (k : ℕ) → k < 65536 → slice_index stamps (k / 256) < since
    → slice_index xs k ≡ slice_index ys k

-- None of some cells stands in a page.
abbrev pub SparesPage : List (ℕ × ℕ) → ℕ → Type 0
SparesPage cells page = (i : ℕ) → i < length cells → (slice_index_or cells i (0, 0)).0 / 256 ≢ page

-- What was the same as a memory below a number up to the current one still is, after the memory and
-- the stamps changed.
abbrev pub StaySame : ℕ → List ℕ → List ℕ → List ℕ → List ℕ → Type 0
StaySame now old new before after = (since : ℕ) → since ≤ now → (kept : List ℕ)
    → AreSameBelow since old kept before → AreSameBelow since new kept after

-- From one bus to another only memory changed, in stamped pages, and no byte whose watch is not 0.
pub record Stores (watches : List ℕ) (now : ℕ) (old new : List ℕ) (before after : Bus) : Type 0
  where
    pub same : StaySame now old new before.memory after.memory
    pub kept : (k : ℕ) → slice_index watches k ≢ 0
        → slice_index after.memory k ≡ slice_index before.memory k
    pub rest : after ≡ record before { memory = after.memory }
