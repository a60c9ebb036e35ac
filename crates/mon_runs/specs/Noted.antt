-- Bytes that are noted for later, as the code does it.
use Rattle.std.specs.Prelude.{◌≡◌, ◌<◌, ℕ, List, length, slice_index}
use Rattle.model.specs.State.{State}

-- The byte at each of some addresses of a state, by index.
abbrev pub AreBytesAt : List ℕ → State → List ℕ → Type 0
AreBytesAt addresses state bytes = (k : ℕ) → k < length addresses
    → slice_index bytes k ≡ slice_index state.bus.memory (slice_index addresses k)
